-- The equations of specs/Replies hold: both sides of each compute to the same.
-- Printed: cargo run --release --manifest-path rust/Cargo.toml -p reference --example equations write
use mathlib.Core.Path.{refl}
use Rattle.worst_count.proofs.Cases.{opened}
use Rattle.equations.specs.Replies.{SingleStopRead16, SingleStopRead24, SingleStopWrite16, SingleStopWrite24, SingleStopControl, SingleIgnoreRead16, SingleIgnoreRead24, SingleIgnoreWrite16}
use Rattle.equations.specs.Replies.{SingleIgnoreWrite24, SingleIgnoreControl, SingleRepeatRead16, SingleRepeatRead24, SingleRepeatWrite16, SingleRepeatWrite24, SingleRepeatControl, SingleScanRead16}
use Rattle.equations.specs.Replies.{SingleScanRead24, SingleScanWrite16, SingleScanWrite24, SingleScanControl, BlockStopRead16, BlockStopRead24, BlockStopWrite16, BlockStopWrite24}
use Rattle.equations.specs.Replies.{BlockIgnoreRead16, BlockIgnoreRead24, BlockIgnoreWrite16, BlockIgnoreWrite24, BlockRepeatRead16, BlockRepeatRead24, BlockRepeatWrite16, BlockRepeatWrite24}
use Rattle.equations.specs.Replies.{BlockScanRead16, BlockScanRead24, BlockScanWrite16, BlockScanWrite24, EnhancedStopRead16, EnhancedStopRead24, EnhancedStopWrite16, EnhancedStopWrite24}
use Rattle.equations.specs.Replies.{EnhancedIgnoreRead16, EnhancedIgnoreRead24, EnhancedIgnoreWrite16, EnhancedIgnoreWrite24, EnhancedRepeatRead16, EnhancedRepeatRead24, SequencerRead16, SequencerRead24}
use Rattle.equations.specs.Replies.{SequencerWrite16, SequencerWrite24, InlineStop16, InlineStop24, InlineIgnore16, InlineIgnore24, InlineRepeat16, InlineRepeat24}
use Rattle.equations.specs.Replies.{InlineScan16, InlineScan24, BlockScanRead24Places, BlockScanWrite16Places, SingleScanRead24Places, InlineScan24Places, SingleStopRead24Other, SingleIgnoreRead24Other}
use Rattle.equations.specs.Replies.{SingleRepeatRead24Other, SingleScanRead24Other, BlockStopRead24Other, BlockIgnoreRead24Other, BlockRepeatRead24Other, BlockScanRead24Other, EnhancedStopRead24Other, EnhancedIgnoreRead24Other}
use Rattle.equations.specs.Replies.{EnhancedRepeatRead24Other, SequencerRead24Other, InlineStop24Other, InlineIgnore24Other, InlineRepeat24Other, InlineScan24Other, CausesInAStopSingle, CausesInAStopBlock}
use Rattle.equations.specs.Replies.{CausesOnALastTry, CausesAtALastPosition}

pub single_stop_read_16 : SingleStopRead16
unfolding opened
single_stop_read_16 = record {
  ad_0_q_0_x_0 = refl;
  ad_0_q_1_x_0 = refl;
  ad_0_q_0_x_1 = refl;
  ad_0_q_1_x_1 = refl;
  ad_1_q_0_x_0 = refl;
  ad_1_q_1_x_0 = refl;
  ad_1_q_0_x_1 = refl;
  ad_1_q_1_x_1 = refl;
}

pub single_stop_read_24 : SingleStopRead24
unfolding opened
single_stop_read_24 = record {
  ad_0_q_0_x_0 = refl;
  ad_0_q_1_x_0 = refl;
  ad_0_q_0_x_1 = refl;
  ad_0_q_1_x_1 = refl;
  ad_1_q_0_x_0 = refl;
  ad_1_q_1_x_0 = refl;
  ad_1_q_0_x_1 = refl;
  ad_1_q_1_x_1 = refl;
}

pub single_stop_write_16 : SingleStopWrite16
unfolding opened
single_stop_write_16 = record {
  ad_0_q_0_x_0 = refl;
  ad_0_q_1_x_0 = refl;
  ad_0_q_0_x_1 = refl;
  ad_0_q_1_x_1 = refl;
  ad_1_q_0_x_0 = refl;
  ad_1_q_1_x_0 = refl;
  ad_1_q_0_x_1 = refl;
  ad_1_q_1_x_1 = refl;
}

pub single_stop_write_24 : SingleStopWrite24
unfolding opened
single_stop_write_24 = record {
  ad_0_q_0_x_0 = refl;
  ad_0_q_1_x_0 = refl;
  ad_0_q_0_x_1 = refl;
  ad_0_q_1_x_1 = refl;
  ad_1_q_0_x_0 = refl;
  ad_1_q_1_x_0 = refl;
  ad_1_q_0_x_1 = refl;
  ad_1_q_1_x_1 = refl;
}

pub single_stop_control : SingleStopControl
unfolding opened
single_stop_control = record {
  ad_0_q_0_x_0 = refl;
  ad_0_q_1_x_0 = refl;
  ad_0_q_0_x_1 = refl;
  ad_0_q_1_x_1 = refl;
  ad_1_q_0_x_0 = refl;
  ad_1_q_1_x_0 = refl;
  ad_1_q_0_x_1 = refl;
  ad_1_q_1_x_1 = refl;
}

pub single_ignore_read_16 : SingleIgnoreRead16
unfolding opened
single_ignore_read_16 = record {
  ad_0_q_0_x_0 = refl;
  ad_0_q_1_x_0 = refl;
  ad_0_q_0_x_1 = refl;
  ad_0_q_1_x_1 = refl;
  ad_1_q_0_x_0 = refl;
  ad_1_q_1_x_0 = refl;
  ad_1_q_0_x_1 = refl;
  ad_1_q_1_x_1 = refl;
}

pub single_ignore_read_24 : SingleIgnoreRead24
unfolding opened
single_ignore_read_24 = record {
  ad_0_q_0_x_0 = refl;
  ad_0_q_1_x_0 = refl;
  ad_0_q_0_x_1 = refl;
  ad_0_q_1_x_1 = refl;
  ad_1_q_0_x_0 = refl;
  ad_1_q_1_x_0 = refl;
  ad_1_q_0_x_1 = refl;
  ad_1_q_1_x_1 = refl;
}

pub single_ignore_write_16 : SingleIgnoreWrite16
unfolding opened
single_ignore_write_16 = record {
  ad_0_q_0_x_0 = refl;
  ad_0_q_1_x_0 = refl;
  ad_0_q_0_x_1 = refl;
  ad_0_q_1_x_1 = refl;
  ad_1_q_0_x_0 = refl;
  ad_1_q_1_x_0 = refl;
  ad_1_q_0_x_1 = refl;
  ad_1_q_1_x_1 = refl;
}

pub single_ignore_write_24 : SingleIgnoreWrite24
unfolding opened
single_ignore_write_24 = record {
  ad_0_q_0_x_0 = refl;
  ad_0_q_1_x_0 = refl;
  ad_0_q_0_x_1 = refl;
  ad_0_q_1_x_1 = refl;
  ad_1_q_0_x_0 = refl;
  ad_1_q_1_x_0 = refl;
  ad_1_q_0_x_1 = refl;
  ad_1_q_1_x_1 = refl;
}

pub single_ignore_control : SingleIgnoreControl
unfolding opened
single_ignore_control = record {
  ad_0_q_0_x_0 = refl;
  ad_0_q_1_x_0 = refl;
  ad_0_q_0_x_1 = refl;
  ad_0_q_1_x_1 = refl;
  ad_1_q_0_x_0 = refl;
  ad_1_q_1_x_0 = refl;
  ad_1_q_0_x_1 = refl;
  ad_1_q_1_x_1 = refl;
}

pub single_repeat_read_16 : SingleRepeatRead16
unfolding opened
single_repeat_read_16 = record {
  ad_0_q_0_x_0 = refl;
  last_try_ad_0_q_0_x_0 = refl;
  ad_0_q_1_x_0 = refl;
  ad_0_q_0_x_1 = refl;
  last_try_ad_0_q_0_x_1 = refl;
  ad_0_q_1_x_1 = refl;
  ad_1_q_0_x_0 = refl;
  last_try_ad_1_q_0_x_0 = refl;
  ad_1_q_1_x_0 = refl;
  ad_1_q_0_x_1 = refl;
  last_try_ad_1_q_0_x_1 = refl;
  ad_1_q_1_x_1 = refl;
}

pub single_repeat_read_24 : SingleRepeatRead24
unfolding opened
single_repeat_read_24 = record {
  ad_0_q_0_x_0 = refl;
  last_try_ad_0_q_0_x_0 = refl;
  ad_0_q_1_x_0 = refl;
  ad_0_q_0_x_1 = refl;
  last_try_ad_0_q_0_x_1 = refl;
  ad_0_q_1_x_1 = refl;
  ad_1_q_0_x_0 = refl;
  last_try_ad_1_q_0_x_0 = refl;
  ad_1_q_1_x_0 = refl;
  ad_1_q_0_x_1 = refl;
  last_try_ad_1_q_0_x_1 = refl;
  ad_1_q_1_x_1 = refl;
}

pub single_repeat_write_16 : SingleRepeatWrite16
unfolding opened
single_repeat_write_16 = record {
  ad_0_q_0_x_0 = refl;
  last_try_ad_0_q_0_x_0 = refl;
  ad_0_q_1_x_0 = refl;
  ad_0_q_0_x_1 = refl;
  last_try_ad_0_q_0_x_1 = refl;
  ad_0_q_1_x_1 = refl;
  ad_1_q_0_x_0 = refl;
  last_try_ad_1_q_0_x_0 = refl;
  ad_1_q_1_x_0 = refl;
  ad_1_q_0_x_1 = refl;
  last_try_ad_1_q_0_x_1 = refl;
  ad_1_q_1_x_1 = refl;
}

pub single_repeat_write_24 : SingleRepeatWrite24
unfolding opened
single_repeat_write_24 = record {
  ad_0_q_0_x_0 = refl;
  last_try_ad_0_q_0_x_0 = refl;
  ad_0_q_1_x_0 = refl;
  ad_0_q_0_x_1 = refl;
  last_try_ad_0_q_0_x_1 = refl;
  ad_0_q_1_x_1 = refl;
  ad_1_q_0_x_0 = refl;
  last_try_ad_1_q_0_x_0 = refl;
  ad_1_q_1_x_0 = refl;
  ad_1_q_0_x_1 = refl;
  last_try_ad_1_q_0_x_1 = refl;
  ad_1_q_1_x_1 = refl;
}

pub single_repeat_control : SingleRepeatControl
unfolding opened
single_repeat_control = record {
  ad_0_q_0_x_0 = refl;
  last_try_ad_0_q_0_x_0 = refl;
  ad_0_q_1_x_0 = refl;
  ad_0_q_0_x_1 = refl;
  last_try_ad_0_q_0_x_1 = refl;
  ad_0_q_1_x_1 = refl;
  ad_1_q_0_x_0 = refl;
  last_try_ad_1_q_0_x_0 = refl;
  ad_1_q_1_x_0 = refl;
  ad_1_q_0_x_1 = refl;
  last_try_ad_1_q_0_x_1 = refl;
  ad_1_q_1_x_1 = refl;
}

pub single_scan_read_16 : SingleScanRead16
unfolding opened
single_scan_read_16 = record {
  ad_0_q_0_x_0 = refl;
  ad_0_q_1_x_0 = refl;
  ad_0_q_0_x_1 = refl;
  ad_0_q_1_x_1 = refl;
  ad_1_q_0_x_0 = refl;
  ad_1_q_1_x_0 = refl;
  ad_1_q_0_x_1 = refl;
  ad_1_q_1_x_1 = refl;
}

pub single_scan_read_24 : SingleScanRead24
unfolding opened
single_scan_read_24 = record {
  ad_0_q_0_x_0 = refl;
  ad_0_q_1_x_0 = refl;
  ad_0_q_0_x_1 = refl;
  ad_0_q_1_x_1 = refl;
  ad_1_q_0_x_0 = refl;
  ad_1_q_1_x_0 = refl;
  ad_1_q_0_x_1 = refl;
  ad_1_q_1_x_1 = refl;
}

pub single_scan_write_16 : SingleScanWrite16
unfolding opened
single_scan_write_16 = record {
  ad_0_q_0_x_0 = refl;
  ad_0_q_1_x_0 = refl;
  ad_0_q_0_x_1 = refl;
  ad_0_q_1_x_1 = refl;
  ad_1_q_0_x_0 = refl;
  ad_1_q_1_x_0 = refl;
  ad_1_q_0_x_1 = refl;
  ad_1_q_1_x_1 = refl;
}

pub single_scan_write_24 : SingleScanWrite24
unfolding opened
single_scan_write_24 = record {
  ad_0_q_0_x_0 = refl;
  ad_0_q_1_x_0 = refl;
  ad_0_q_0_x_1 = refl;
  ad_0_q_1_x_1 = refl;
  ad_1_q_0_x_0 = refl;
  ad_1_q_1_x_0 = refl;
  ad_1_q_0_x_1 = refl;
  ad_1_q_1_x_1 = refl;
}

pub single_scan_control : SingleScanControl
unfolding opened
single_scan_control = record {
  ad_0_q_0_x_0 = refl;
  ad_0_q_1_x_0 = refl;
  ad_0_q_0_x_1 = refl;
  ad_0_q_1_x_1 = refl;
  ad_1_q_0_x_0 = refl;
  ad_1_q_1_x_0 = refl;
  ad_1_q_0_x_1 = refl;
  ad_1_q_1_x_1 = refl;
}

pub block_stop_read_16 : BlockStopRead16
unfolding opened
block_stop_read_16 = record {
  ad_0_q_0_x_0 = refl;
  ad_0_q_1_x_0 = refl;
  ad_0_q_0_x_1 = refl;
  last_word_ad_0_q_0_x_1 = refl;
  ad_0_q_1_x_1 = refl;
  last_word_ad_0_q_1_x_1 = refl;
  ad_1_q_0_x_0 = refl;
  ad_1_q_1_x_0 = refl;
  ad_1_q_0_x_1 = refl;
  ad_1_q_1_x_1 = refl;
}

pub block_stop_read_24 : BlockStopRead24
unfolding opened
block_stop_read_24 = record {
  ad_0_q_0_x_0 = refl;
  ad_0_q_1_x_0 = refl;
  ad_0_q_0_x_1 = refl;
  last_word_ad_0_q_0_x_1 = refl;
  ad_0_q_1_x_1 = refl;
  last_word_ad_0_q_1_x_1 = refl;
  ad_1_q_0_x_0 = refl;
  ad_1_q_1_x_0 = refl;
  ad_1_q_0_x_1 = refl;
  ad_1_q_1_x_1 = refl;
}

pub block_stop_write_16 : BlockStopWrite16
unfolding opened
block_stop_write_16 = record {
  ad_0_q_0_x_0 = refl;
  ad_0_q_1_x_0 = refl;
  ad_0_q_0_x_1 = refl;
  last_word_ad_0_q_0_x_1 = refl;
  ad_0_q_1_x_1 = refl;
  last_word_ad_0_q_1_x_1 = refl;
  ad_1_q_0_x_0 = refl;
  ad_1_q_1_x_0 = refl;
  ad_1_q_0_x_1 = refl;
  ad_1_q_1_x_1 = refl;
}

pub block_stop_write_24 : BlockStopWrite24
unfolding opened
block_stop_write_24 = record {
  ad_0_q_0_x_0 = refl;
  ad_0_q_1_x_0 = refl;
  ad_0_q_0_x_1 = refl;
  last_word_ad_0_q_0_x_1 = refl;
  ad_0_q_1_x_1 = refl;
  last_word_ad_0_q_1_x_1 = refl;
  ad_1_q_0_x_0 = refl;
  ad_1_q_1_x_0 = refl;
  ad_1_q_0_x_1 = refl;
  ad_1_q_1_x_1 = refl;
}

pub block_ignore_read_16 : BlockIgnoreRead16
unfolding opened
block_ignore_read_16 = record {
  ad_0_q_0_x_0 = refl;
  ad_0_q_1_x_0 = refl;
  ad_0_q_0_x_1 = refl;
  last_word_ad_0_q_0_x_1 = refl;
  ad_0_q_1_x_1 = refl;
  last_word_ad_0_q_1_x_1 = refl;
  ad_1_q_0_x_0 = refl;
  ad_1_q_1_x_0 = refl;
  ad_1_q_0_x_1 = refl;
  ad_1_q_1_x_1 = refl;
}

pub block_ignore_read_24 : BlockIgnoreRead24
unfolding opened
block_ignore_read_24 = record {
  ad_0_q_0_x_0 = refl;
  ad_0_q_1_x_0 = refl;
  ad_0_q_0_x_1 = refl;
  last_word_ad_0_q_0_x_1 = refl;
  ad_0_q_1_x_1 = refl;
  last_word_ad_0_q_1_x_1 = refl;
  ad_1_q_0_x_0 = refl;
  ad_1_q_1_x_0 = refl;
  ad_1_q_0_x_1 = refl;
  ad_1_q_1_x_1 = refl;
}

pub block_ignore_write_16 : BlockIgnoreWrite16
unfolding opened
block_ignore_write_16 = record {
  ad_0_q_0_x_0 = refl;
  ad_0_q_1_x_0 = refl;
  ad_0_q_0_x_1 = refl;
  last_word_ad_0_q_0_x_1 = refl;
  ad_0_q_1_x_1 = refl;
  last_word_ad_0_q_1_x_1 = refl;
  ad_1_q_0_x_0 = refl;
  ad_1_q_1_x_0 = refl;
  ad_1_q_0_x_1 = refl;
  ad_1_q_1_x_1 = refl;
}

pub block_ignore_write_24 : BlockIgnoreWrite24
unfolding opened
block_ignore_write_24 = record {
  ad_0_q_0_x_0 = refl;
  ad_0_q_1_x_0 = refl;
  ad_0_q_0_x_1 = refl;
  last_word_ad_0_q_0_x_1 = refl;
  ad_0_q_1_x_1 = refl;
  last_word_ad_0_q_1_x_1 = refl;
  ad_1_q_0_x_0 = refl;
  ad_1_q_1_x_0 = refl;
  ad_1_q_0_x_1 = refl;
  ad_1_q_1_x_1 = refl;
}

pub block_repeat_read_16 : BlockRepeatRead16
unfolding opened
block_repeat_read_16 = record {
  ad_0_q_0_x_0 = refl;
  last_try_ad_0_q_0_x_0 = refl;
  ad_0_q_1_x_0 = refl;
  ad_0_q_0_x_1 = refl;
  last_try_ad_0_q_0_x_1 = refl;
  last_word_ad_0_q_0_x_1 = refl;
  ad_0_q_1_x_1 = refl;
  last_word_ad_0_q_1_x_1 = refl;
  ad_1_q_0_x_0 = refl;
  last_try_ad_1_q_0_x_0 = refl;
  ad_1_q_1_x_0 = refl;
  ad_1_q_0_x_1 = refl;
  last_try_ad_1_q_0_x_1 = refl;
  ad_1_q_1_x_1 = refl;
}

pub block_repeat_read_24 : BlockRepeatRead24
unfolding opened
block_repeat_read_24 = record {
  ad_0_q_0_x_0 = refl;
  last_try_ad_0_q_0_x_0 = refl;
  ad_0_q_1_x_0 = refl;
  ad_0_q_0_x_1 = refl;
  last_try_ad_0_q_0_x_1 = refl;
  last_word_ad_0_q_0_x_1 = refl;
  ad_0_q_1_x_1 = refl;
  last_word_ad_0_q_1_x_1 = refl;
  ad_1_q_0_x_0 = refl;
  last_try_ad_1_q_0_x_0 = refl;
  ad_1_q_1_x_0 = refl;
  ad_1_q_0_x_1 = refl;
  last_try_ad_1_q_0_x_1 = refl;
  ad_1_q_1_x_1 = refl;
}

pub block_repeat_write_16 : BlockRepeatWrite16
unfolding opened
block_repeat_write_16 = record {
  ad_0_q_0_x_0 = refl;
  last_try_ad_0_q_0_x_0 = refl;
  ad_0_q_1_x_0 = refl;
  ad_0_q_0_x_1 = refl;
  last_try_ad_0_q_0_x_1 = refl;
  last_word_ad_0_q_0_x_1 = refl;
  ad_0_q_1_x_1 = refl;
  last_word_ad_0_q_1_x_1 = refl;
  ad_1_q_0_x_0 = refl;
  last_try_ad_1_q_0_x_0 = refl;
  ad_1_q_1_x_0 = refl;
  ad_1_q_0_x_1 = refl;
  last_try_ad_1_q_0_x_1 = refl;
  ad_1_q_1_x_1 = refl;
}

pub block_repeat_write_24 : BlockRepeatWrite24
unfolding opened
block_repeat_write_24 = record {
  ad_0_q_0_x_0 = refl;
  last_try_ad_0_q_0_x_0 = refl;
  ad_0_q_1_x_0 = refl;
  ad_0_q_0_x_1 = refl;
  last_try_ad_0_q_0_x_1 = refl;
  last_word_ad_0_q_0_x_1 = refl;
  ad_0_q_1_x_1 = refl;
  last_word_ad_0_q_1_x_1 = refl;
  ad_1_q_0_x_0 = refl;
  last_try_ad_1_q_0_x_0 = refl;
  ad_1_q_1_x_0 = refl;
  ad_1_q_0_x_1 = refl;
  last_try_ad_1_q_0_x_1 = refl;
  ad_1_q_1_x_1 = refl;
}

pub block_scan_read_16 : BlockScanRead16
unfolding opened
block_scan_read_16 = record {
  ad_0_q_0_x_0 = refl;
  ad_0_q_1_x_0 = refl;
  ad_0_q_0_x_1 = refl;
  last_word_ad_0_q_0_x_1 = refl;
  ad_0_q_1_x_1 = refl;
  last_word_ad_0_q_1_x_1 = refl;
  ad_1_q_0_x_0 = refl;
  ad_1_q_1_x_0 = refl;
  ad_1_q_0_x_1 = refl;
  ad_1_q_1_x_1 = refl;
}

pub block_scan_read_24 : BlockScanRead24
unfolding opened
block_scan_read_24 = record {
  ad_0_q_0_x_0 = refl;
  ad_0_q_1_x_0 = refl;
  ad_0_q_0_x_1 = refl;
  last_word_ad_0_q_0_x_1 = refl;
  ad_0_q_1_x_1 = refl;
  last_word_ad_0_q_1_x_1 = refl;
  ad_1_q_0_x_0 = refl;
  ad_1_q_1_x_0 = refl;
  ad_1_q_0_x_1 = refl;
  ad_1_q_1_x_1 = refl;
}

pub block_scan_write_16 : BlockScanWrite16
unfolding opened
block_scan_write_16 = record {
  ad_0_q_0_x_0 = refl;
  ad_0_q_1_x_0 = refl;
  ad_0_q_0_x_1 = refl;
  last_word_ad_0_q_0_x_1 = refl;
  ad_0_q_1_x_1 = refl;
  last_word_ad_0_q_1_x_1 = refl;
  ad_1_q_0_x_0 = refl;
  ad_1_q_1_x_0 = refl;
  ad_1_q_0_x_1 = refl;
  ad_1_q_1_x_1 = refl;
}

pub block_scan_write_24 : BlockScanWrite24
unfolding opened
block_scan_write_24 = record {
  ad_0_q_0_x_0 = refl;
  ad_0_q_1_x_0 = refl;
  ad_0_q_0_x_1 = refl;
  last_word_ad_0_q_0_x_1 = refl;
  ad_0_q_1_x_1 = refl;
  last_word_ad_0_q_1_x_1 = refl;
  ad_1_q_0_x_0 = refl;
  ad_1_q_1_x_0 = refl;
  ad_1_q_0_x_1 = refl;
  ad_1_q_1_x_1 = refl;
}

pub enhanced_stop_read_16 : EnhancedStopRead16
unfolding opened
enhanced_stop_read_16 = record {
  ad_0_q_0_x_0 = refl;
  ad_0_q_1_x_0 = refl;
  ad_0_q_0_x_1 = refl;
  last_word_ad_0_q_0_x_1 = refl;
  ad_0_q_1_x_1 = refl;
  last_word_ad_0_q_1_x_1 = refl;
  ad_1_q_0_x_0 = refl;
  ad_1_q_1_x_0 = refl;
  ad_1_q_0_x_1 = refl;
  ad_1_q_1_x_1 = refl;
}

pub enhanced_stop_read_24 : EnhancedStopRead24
unfolding opened
enhanced_stop_read_24 = record {
  ad_0_q_0_x_0 = refl;
  ad_0_q_1_x_0 = refl;
  ad_0_q_0_x_1 = refl;
  last_word_ad_0_q_0_x_1 = refl;
  ad_0_q_1_x_1 = refl;
  last_word_ad_0_q_1_x_1 = refl;
  ad_1_q_0_x_0 = refl;
  ad_1_q_1_x_0 = refl;
  ad_1_q_0_x_1 = refl;
  ad_1_q_1_x_1 = refl;
}

pub enhanced_stop_write_16 : EnhancedStopWrite16
unfolding opened
enhanced_stop_write_16 = record {
  ad_0_q_0_x_0 = refl;
  ad_0_q_1_x_0 = refl;
  ad_0_q_0_x_1 = refl;
  last_word_ad_0_q_0_x_1 = refl;
  ad_0_q_1_x_1 = refl;
  last_word_ad_0_q_1_x_1 = refl;
  ad_1_q_0_x_0 = refl;
  ad_1_q_1_x_0 = refl;
  ad_1_q_0_x_1 = refl;
  ad_1_q_1_x_1 = refl;
}

pub enhanced_stop_write_24 : EnhancedStopWrite24
unfolding opened
enhanced_stop_write_24 = record {
  ad_0_q_0_x_0 = refl;
  ad_0_q_1_x_0 = refl;
  ad_0_q_0_x_1 = refl;
  last_word_ad_0_q_0_x_1 = refl;
  ad_0_q_1_x_1 = refl;
  last_word_ad_0_q_1_x_1 = refl;
  ad_1_q_0_x_0 = refl;
  ad_1_q_1_x_0 = refl;
  ad_1_q_0_x_1 = refl;
  ad_1_q_1_x_1 = refl;
}

pub enhanced_ignore_read_16 : EnhancedIgnoreRead16
unfolding opened
enhanced_ignore_read_16 = record {
  ad_0_q_0_x_0 = refl;
  ad_0_q_1_x_0 = refl;
  ad_0_q_0_x_1 = refl;
  last_word_ad_0_q_0_x_1 = refl;
  ad_0_q_1_x_1 = refl;
  last_word_ad_0_q_1_x_1 = refl;
  ad_1_q_0_x_0 = refl;
  ad_1_q_1_x_0 = refl;
  ad_1_q_0_x_1 = refl;
  ad_1_q_1_x_1 = refl;
}

pub enhanced_ignore_read_24 : EnhancedIgnoreRead24
unfolding opened
enhanced_ignore_read_24 = record {
  ad_0_q_0_x_0 = refl;
  ad_0_q_1_x_0 = refl;
  ad_0_q_0_x_1 = refl;
  last_word_ad_0_q_0_x_1 = refl;
  ad_0_q_1_x_1 = refl;
  last_word_ad_0_q_1_x_1 = refl;
  ad_1_q_0_x_0 = refl;
  ad_1_q_1_x_0 = refl;
  ad_1_q_0_x_1 = refl;
  ad_1_q_1_x_1 = refl;
}

pub enhanced_ignore_write_16 : EnhancedIgnoreWrite16
unfolding opened
enhanced_ignore_write_16 = record {
  ad_0_q_0_x_0 = refl;
  ad_0_q_1_x_0 = refl;
  ad_0_q_0_x_1 = refl;
  last_word_ad_0_q_0_x_1 = refl;
  ad_0_q_1_x_1 = refl;
  last_word_ad_0_q_1_x_1 = refl;
  ad_1_q_0_x_0 = refl;
  ad_1_q_1_x_0 = refl;
  ad_1_q_0_x_1 = refl;
  ad_1_q_1_x_1 = refl;
}

pub enhanced_ignore_write_24 : EnhancedIgnoreWrite24
unfolding opened
enhanced_ignore_write_24 = record {
  ad_0_q_0_x_0 = refl;
  ad_0_q_1_x_0 = refl;
  ad_0_q_0_x_1 = refl;
  last_word_ad_0_q_0_x_1 = refl;
  ad_0_q_1_x_1 = refl;
  last_word_ad_0_q_1_x_1 = refl;
  ad_1_q_0_x_0 = refl;
  ad_1_q_1_x_0 = refl;
  ad_1_q_0_x_1 = refl;
  ad_1_q_1_x_1 = refl;
}

pub enhanced_repeat_read_16 : EnhancedRepeatRead16
unfolding opened
enhanced_repeat_read_16 = record {
  ad_0_q_0_x_0 = refl;
  last_try_ad_0_q_0_x_0 = refl;
  ad_0_q_1_x_0 = refl;
  ad_0_q_0_x_1 = refl;
  last_try_ad_0_q_0_x_1 = refl;
  last_word_ad_0_q_0_x_1 = refl;
  ad_0_q_1_x_1 = refl;
  last_word_ad_0_q_1_x_1 = refl;
  ad_1_q_0_x_0 = refl;
  last_try_ad_1_q_0_x_0 = refl;
  ad_1_q_1_x_0 = refl;
  ad_1_q_0_x_1 = refl;
  last_try_ad_1_q_0_x_1 = refl;
  ad_1_q_1_x_1 = refl;
}

pub enhanced_repeat_read_24 : EnhancedRepeatRead24
unfolding opened
enhanced_repeat_read_24 = record {
  ad_0_q_0_x_0 = refl;
  last_try_ad_0_q_0_x_0 = refl;
  ad_0_q_1_x_0 = refl;
  ad_0_q_0_x_1 = refl;
  last_try_ad_0_q_0_x_1 = refl;
  last_word_ad_0_q_0_x_1 = refl;
  ad_0_q_1_x_1 = refl;
  last_word_ad_0_q_1_x_1 = refl;
  ad_1_q_0_x_0 = refl;
  last_try_ad_1_q_0_x_0 = refl;
  ad_1_q_1_x_0 = refl;
  ad_1_q_0_x_1 = refl;
  last_try_ad_1_q_0_x_1 = refl;
  ad_1_q_1_x_1 = refl;
}

pub sequencer_read_16 : SequencerRead16
unfolding opened
sequencer_read_16 = record {
  ad_0_q_0_x_0 = refl;
  ad_0_q_1_x_0 = refl;
  ad_0_q_0_x_1 = refl;
  last_word_ad_0_q_0_x_1 = refl;
  ad_0_q_1_x_1 = refl;
  last_word_ad_0_q_1_x_1 = refl;
  ad_1_q_0_x_0 = refl;
  ad_1_q_1_x_0 = refl;
  ad_1_q_0_x_1 = refl;
  ad_1_q_1_x_1 = refl;
}

pub sequencer_read_24 : SequencerRead24
unfolding opened
sequencer_read_24 = record {
  ad_0_q_0_x_0 = refl;
  ad_0_q_1_x_0 = refl;
  ad_0_q_0_x_1 = refl;
  last_word_ad_0_q_0_x_1 = refl;
  ad_0_q_1_x_1 = refl;
  last_word_ad_0_q_1_x_1 = refl;
  ad_1_q_0_x_0 = refl;
  ad_1_q_1_x_0 = refl;
  ad_1_q_0_x_1 = refl;
  ad_1_q_1_x_1 = refl;
}

pub sequencer_write_16 : SequencerWrite16
unfolding opened
sequencer_write_16 = record {
  ad_0_q_0_x_0 = refl;
  ad_0_q_1_x_0 = refl;
  ad_0_q_0_x_1 = refl;
  last_word_ad_0_q_0_x_1 = refl;
  ad_0_q_1_x_1 = refl;
  last_word_ad_0_q_1_x_1 = refl;
  ad_1_q_0_x_0 = refl;
  ad_1_q_1_x_0 = refl;
  ad_1_q_0_x_1 = refl;
  ad_1_q_1_x_1 = refl;
}

pub sequencer_write_24 : SequencerWrite24
unfolding opened
sequencer_write_24 = record {
  ad_0_q_0_x_0 = refl;
  ad_0_q_1_x_0 = refl;
  ad_0_q_0_x_1 = refl;
  last_word_ad_0_q_0_x_1 = refl;
  ad_0_q_1_x_1 = refl;
  last_word_ad_0_q_1_x_1 = refl;
  ad_1_q_0_x_0 = refl;
  ad_1_q_1_x_0 = refl;
  ad_1_q_0_x_1 = refl;
  ad_1_q_1_x_1 = refl;
}

pub inline_stop_16 : InlineStop16
unfolding opened
inline_stop_16 = record {
  ad_0_q_0_x_0 = refl;
  ad_0_q_1_x_0 = refl;
  ad_0_q_0_x_1 = refl;
  ad_0_q_1_x_1 = refl;
  ad_1_q_0_x_0 = refl;
  ad_1_q_1_x_0 = refl;
  ad_1_q_0_x_1 = refl;
  ad_1_q_1_x_1 = refl;
}

pub inline_stop_24 : InlineStop24
unfolding opened
inline_stop_24 = record {
  ad_0_q_0_x_0 = refl;
  ad_0_q_1_x_0 = refl;
  ad_0_q_0_x_1 = refl;
  ad_0_q_1_x_1 = refl;
  ad_1_q_0_x_0 = refl;
  ad_1_q_1_x_0 = refl;
  ad_1_q_0_x_1 = refl;
  ad_1_q_1_x_1 = refl;
}

pub inline_ignore_16 : InlineIgnore16
unfolding opened
inline_ignore_16 = record {
  ad_0_q_0_x_0 = refl;
  ad_0_q_1_x_0 = refl;
  ad_0_q_0_x_1 = refl;
  ad_0_q_1_x_1 = refl;
  ad_1_q_0_x_0 = refl;
  ad_1_q_1_x_0 = refl;
  ad_1_q_0_x_1 = refl;
  ad_1_q_1_x_1 = refl;
}

pub inline_ignore_24 : InlineIgnore24
unfolding opened
inline_ignore_24 = record {
  ad_0_q_0_x_0 = refl;
  ad_0_q_1_x_0 = refl;
  ad_0_q_0_x_1 = refl;
  ad_0_q_1_x_1 = refl;
  ad_1_q_0_x_0 = refl;
  ad_1_q_1_x_0 = refl;
  ad_1_q_0_x_1 = refl;
  ad_1_q_1_x_1 = refl;
}

pub inline_repeat_16 : InlineRepeat16
unfolding opened
inline_repeat_16 = record {
  ad_0_q_0_x_0 = refl;
  last_try_ad_0_q_0_x_0 = refl;
  ad_0_q_1_x_0 = refl;
  ad_0_q_0_x_1 = refl;
  last_try_ad_0_q_0_x_1 = refl;
  ad_0_q_1_x_1 = refl;
  ad_1_q_0_x_0 = refl;
  last_try_ad_1_q_0_x_0 = refl;
  ad_1_q_1_x_0 = refl;
  ad_1_q_0_x_1 = refl;
  last_try_ad_1_q_0_x_1 = refl;
  ad_1_q_1_x_1 = refl;
}

pub inline_repeat_24 : InlineRepeat24
unfolding opened
inline_repeat_24 = record {
  ad_0_q_0_x_0 = refl;
  last_try_ad_0_q_0_x_0 = refl;
  ad_0_q_1_x_0 = refl;
  ad_0_q_0_x_1 = refl;
  last_try_ad_0_q_0_x_1 = refl;
  ad_0_q_1_x_1 = refl;
  ad_1_q_0_x_0 = refl;
  last_try_ad_1_q_0_x_0 = refl;
  ad_1_q_1_x_0 = refl;
  ad_1_q_0_x_1 = refl;
  last_try_ad_1_q_0_x_1 = refl;
  ad_1_q_1_x_1 = refl;
}

pub inline_scan_16 : InlineScan16
unfolding opened
inline_scan_16 = record {
  ad_0_q_0_x_0 = refl;
  ad_0_q_1_x_0 = refl;
  ad_0_q_0_x_1 = refl;
  ad_0_q_1_x_1 = refl;
  ad_1_q_0_x_0 = refl;
  ad_1_q_1_x_0 = refl;
  ad_1_q_0_x_1 = refl;
  ad_1_q_1_x_1 = refl;
}

pub inline_scan_24 : InlineScan24
unfolding opened
inline_scan_24 = record {
  ad_0_q_0_x_0 = refl;
  ad_0_q_1_x_0 = refl;
  ad_0_q_0_x_1 = refl;
  ad_0_q_1_x_1 = refl;
  ad_1_q_0_x_0 = refl;
  ad_1_q_1_x_0 = refl;
  ad_1_q_0_x_1 = refl;
  ad_1_q_1_x_1 = refl;
}

pub block_scan_read_24_places : BlockScanRead24Places
unfolding opened
block_scan_read_24_places = record {
  at_22_15_left_2_ad_0_q_0_x_0 = refl;
  at_22_15_left_2_ad_0_q_1_x_0 = refl;
  at_22_15_left_2_ad_0_q_0_x_1 = refl;
  at_22_15_left_2_ad_0_q_1_x_1 = refl;
  at_22_15_left_1_ad_0_q_0_x_0 = refl;
  at_22_15_left_1_ad_0_q_1_x_0 = refl;
  at_22_15_left_1_ad_0_q_0_x_1 = refl;
  at_22_15_left_1_ad_0_q_1_x_1 = refl;
  at_23_3_left_2_ad_0_q_0_x_0 = refl;
  at_23_3_left_2_ad_0_q_1_x_0 = refl;
  at_23_3_left_2_ad_0_q_0_x_1 = refl;
  at_23_3_left_2_ad_0_q_1_x_1 = refl;
  at_23_3_left_1_ad_0_q_0_x_0 = refl;
  at_23_3_left_1_ad_0_q_1_x_0 = refl;
  at_23_3_left_1_ad_0_q_0_x_1 = refl;
  at_23_3_left_1_ad_0_q_1_x_1 = refl;
  at_23_15_left_2_ad_0_q_0_x_0 = refl;
  at_23_15_left_2_ad_0_q_1_x_0 = refl;
  at_23_15_left_2_ad_0_q_0_x_1 = refl;
  at_23_15_left_2_ad_0_q_1_x_1 = refl;
  at_23_15_left_1_ad_0_q_0_x_0 = refl;
  at_23_15_left_1_ad_0_q_1_x_0 = refl;
  at_23_15_left_1_ad_0_q_0_x_1 = refl;
  at_23_15_left_1_ad_0_q_1_x_1 = refl;
  at_22_15_left_2_ad_1_q_0_x_0 = refl;
  at_22_15_left_2_ad_1_q_1_x_0 = refl;
  at_22_15_left_2_ad_1_q_0_x_1 = refl;
  at_22_15_left_2_ad_1_q_1_x_1 = refl;
  at_22_15_left_1_ad_1_q_0_x_0 = refl;
  at_22_15_left_1_ad_1_q_1_x_0 = refl;
  at_22_15_left_1_ad_1_q_0_x_1 = refl;
  at_22_15_left_1_ad_1_q_1_x_1 = refl;
  at_23_3_left_2_ad_1_q_0_x_0 = refl;
  at_23_3_left_2_ad_1_q_1_x_0 = refl;
  at_23_3_left_2_ad_1_q_0_x_1 = refl;
  at_23_3_left_2_ad_1_q_1_x_1 = refl;
  at_23_3_left_1_ad_1_q_0_x_0 = refl;
  at_23_3_left_1_ad_1_q_1_x_0 = refl;
  at_23_3_left_1_ad_1_q_0_x_1 = refl;
  at_23_3_left_1_ad_1_q_1_x_1 = refl;
  at_23_15_left_2_ad_1_q_0_x_0 = refl;
  at_23_15_left_2_ad_1_q_1_x_0 = refl;
  at_23_15_left_2_ad_1_q_0_x_1 = refl;
  at_23_15_left_2_ad_1_q_1_x_1 = refl;
  at_23_15_left_1_ad_1_q_0_x_0 = refl;
  at_23_15_left_1_ad_1_q_1_x_0 = refl;
  at_23_15_left_1_ad_1_q_0_x_1 = refl;
  at_23_15_left_1_ad_1_q_1_x_1 = refl;
}

pub block_scan_write_16_places : BlockScanWrite16Places
unfolding opened
block_scan_write_16_places = record {
  at_22_15_left_2_ad_0_q_0_x_0 = refl;
  at_22_15_left_2_ad_0_q_1_x_0 = refl;
  at_22_15_left_2_ad_0_q_0_x_1 = refl;
  at_22_15_left_2_ad_0_q_1_x_1 = refl;
  at_22_15_left_1_ad_0_q_0_x_0 = refl;
  at_22_15_left_1_ad_0_q_1_x_0 = refl;
  at_22_15_left_1_ad_0_q_0_x_1 = refl;
  at_22_15_left_1_ad_0_q_1_x_1 = refl;
  at_23_3_left_2_ad_0_q_0_x_0 = refl;
  at_23_3_left_2_ad_0_q_1_x_0 = refl;
  at_23_3_left_2_ad_0_q_0_x_1 = refl;
  at_23_3_left_2_ad_0_q_1_x_1 = refl;
  at_23_3_left_1_ad_0_q_0_x_0 = refl;
  at_23_3_left_1_ad_0_q_1_x_0 = refl;
  at_23_3_left_1_ad_0_q_0_x_1 = refl;
  at_23_3_left_1_ad_0_q_1_x_1 = refl;
  at_23_15_left_2_ad_0_q_0_x_0 = refl;
  at_23_15_left_2_ad_0_q_1_x_0 = refl;
  at_23_15_left_2_ad_0_q_0_x_1 = refl;
  at_23_15_left_2_ad_0_q_1_x_1 = refl;
  at_23_15_left_1_ad_0_q_0_x_0 = refl;
  at_23_15_left_1_ad_0_q_1_x_0 = refl;
  at_23_15_left_1_ad_0_q_0_x_1 = refl;
  at_23_15_left_1_ad_0_q_1_x_1 = refl;
}

pub single_scan_read_24_places : SingleScanRead24Places
unfolding opened
single_scan_read_24_places = record {
  at_22_15_left_1_ad_0_q_0_x_0 = refl;
  at_22_15_left_1_ad_0_q_1_x_0 = refl;
  at_22_15_left_1_ad_0_q_0_x_1 = refl;
  at_22_15_left_1_ad_0_q_1_x_1 = refl;
  at_23_3_left_1_ad_0_q_0_x_0 = refl;
  at_23_3_left_1_ad_0_q_1_x_0 = refl;
  at_23_3_left_1_ad_0_q_0_x_1 = refl;
  at_23_3_left_1_ad_0_q_1_x_1 = refl;
  at_23_15_left_1_ad_0_q_0_x_0 = refl;
  at_23_15_left_1_ad_0_q_1_x_0 = refl;
  at_23_15_left_1_ad_0_q_0_x_1 = refl;
  at_23_15_left_1_ad_0_q_1_x_1 = refl;
}

pub inline_scan_24_places : InlineScan24Places
unfolding opened
inline_scan_24_places = record {
  at_22_15_left_1_ad_0_q_0_x_0 = refl;
  at_22_15_left_1_ad_0_q_1_x_0 = refl;
  at_22_15_left_1_ad_0_q_0_x_1 = refl;
  at_22_15_left_1_ad_0_q_1_x_1 = refl;
  at_23_3_left_1_ad_0_q_0_x_0 = refl;
  at_23_3_left_1_ad_0_q_1_x_0 = refl;
  at_23_3_left_1_ad_0_q_0_x_1 = refl;
  at_23_3_left_1_ad_0_q_1_x_1 = refl;
  at_23_15_left_1_ad_0_q_0_x_0 = refl;
  at_23_15_left_1_ad_0_q_1_x_0 = refl;
  at_23_15_left_1_ad_0_q_0_x_1 = refl;
  at_23_15_left_1_ad_0_q_1_x_1 = refl;
}

pub single_stop_read_24_other : SingleStopRead24Other
unfolding opened
single_stop_read_24_other = record {
  ad_0_err = refl;
  ad_0_err_x_0 = refl;
  ad_0_err_q_0 = refl;
  ad_0_derr = refl;
  ad_0_tpe = refl;
  ad_0_lpe = refl;
  ad_0_kind_1 = refl;
  ad_0_kind_2 = refl;
  ad_0_kind_3 = refl;
  ad_1_err = refl;
  ad_1_err_x_0 = refl;
  ad_1_err_q_0 = refl;
  ad_1_derr = refl;
  ad_1_tpe = refl;
  ad_1_lpe = refl;
  ad_1_kind_1 = refl;
  ad_1_kind_2 = refl;
  ad_1_kind_3 = refl;
}

pub single_ignore_read_24_other : SingleIgnoreRead24Other
unfolding opened
single_ignore_read_24_other = record {
  ad_0_err = refl;
  ad_0_err_x_0 = refl;
  ad_0_err_q_0 = refl;
  ad_0_derr = refl;
  ad_0_tpe = refl;
  ad_0_lpe = refl;
  ad_0_kind_1 = refl;
  ad_0_kind_2 = refl;
  ad_0_kind_3 = refl;
  ad_1_err = refl;
  ad_1_err_x_0 = refl;
  ad_1_err_q_0 = refl;
  ad_1_derr = refl;
  ad_1_tpe = refl;
  ad_1_lpe = refl;
  ad_1_kind_1 = refl;
  ad_1_kind_2 = refl;
  ad_1_kind_3 = refl;
}

pub single_repeat_read_24_other : SingleRepeatRead24Other
unfolding opened
single_repeat_read_24_other = record {
  ad_0_err = refl;
  ad_0_err_x_0 = refl;
  ad_0_err_q_0 = refl;
  ad_0_derr = refl;
  ad_0_tpe = refl;
  ad_0_lpe = refl;
  ad_0_kind_1 = refl;
  ad_0_kind_2 = refl;
  ad_0_kind_3 = refl;
  ad_1_err = refl;
  ad_1_err_x_0 = refl;
  ad_1_err_q_0 = refl;
  ad_1_derr = refl;
  ad_1_tpe = refl;
  ad_1_lpe = refl;
  ad_1_kind_1 = refl;
  ad_1_kind_2 = refl;
  ad_1_kind_3 = refl;
}

pub single_scan_read_24_other : SingleScanRead24Other
unfolding opened
single_scan_read_24_other = record {
  ad_0_err = refl;
  ad_0_err_x_0 = refl;
  ad_0_err_q_0 = refl;
  ad_0_derr = refl;
  ad_0_tpe = refl;
  ad_0_lpe = refl;
  ad_0_kind_1 = refl;
  ad_0_kind_2 = refl;
  ad_0_kind_3 = refl;
  ad_1_err = refl;
  ad_1_err_x_0 = refl;
  ad_1_err_q_0 = refl;
  ad_1_derr = refl;
  ad_1_tpe = refl;
  ad_1_lpe = refl;
  ad_1_kind_1 = refl;
  ad_1_kind_2 = refl;
  ad_1_kind_3 = refl;
}

pub block_stop_read_24_other : BlockStopRead24Other
unfolding opened
block_stop_read_24_other = record {
  ad_0_err = refl;
  ad_0_err_x_0 = refl;
  ad_0_err_q_0 = refl;
  ad_0_derr = refl;
  ad_0_tpe = refl;
  ad_0_lpe = refl;
  ad_0_kind_1 = refl;
  ad_0_kind_2 = refl;
  ad_0_kind_3 = refl;
  ad_1_err = refl;
  ad_1_err_x_0 = refl;
  ad_1_err_q_0 = refl;
  ad_1_derr = refl;
  ad_1_tpe = refl;
  ad_1_lpe = refl;
  ad_1_kind_1 = refl;
  ad_1_kind_2 = refl;
  ad_1_kind_3 = refl;
}

pub block_ignore_read_24_other : BlockIgnoreRead24Other
unfolding opened
block_ignore_read_24_other = record {
  ad_0_err = refl;
  ad_0_err_x_0 = refl;
  ad_0_err_q_0 = refl;
  ad_0_derr = refl;
  ad_0_tpe = refl;
  ad_0_lpe = refl;
  ad_0_kind_1 = refl;
  ad_0_kind_2 = refl;
  ad_0_kind_3 = refl;
  ad_1_err = refl;
  ad_1_err_x_0 = refl;
  ad_1_err_q_0 = refl;
  ad_1_derr = refl;
  ad_1_tpe = refl;
  ad_1_lpe = refl;
  ad_1_kind_1 = refl;
  ad_1_kind_2 = refl;
  ad_1_kind_3 = refl;
}

pub block_repeat_read_24_other : BlockRepeatRead24Other
unfolding opened
block_repeat_read_24_other = record {
  ad_0_err = refl;
  ad_0_err_x_0 = refl;
  ad_0_err_q_0 = refl;
  ad_0_derr = refl;
  ad_0_tpe = refl;
  ad_0_lpe = refl;
  ad_0_kind_1 = refl;
  ad_0_kind_2 = refl;
  ad_0_kind_3 = refl;
  ad_1_err = refl;
  ad_1_err_x_0 = refl;
  ad_1_err_q_0 = refl;
  ad_1_derr = refl;
  ad_1_tpe = refl;
  ad_1_lpe = refl;
  ad_1_kind_1 = refl;
  ad_1_kind_2 = refl;
  ad_1_kind_3 = refl;
}

pub block_scan_read_24_other : BlockScanRead24Other
unfolding opened
block_scan_read_24_other = record {
  ad_0_err = refl;
  ad_0_err_x_0 = refl;
  ad_0_err_q_0 = refl;
  ad_0_derr = refl;
  ad_0_tpe = refl;
  ad_0_lpe = refl;
  ad_0_kind_1 = refl;
  ad_0_kind_2 = refl;
  ad_0_kind_3 = refl;
  ad_1_err = refl;
  ad_1_err_x_0 = refl;
  ad_1_err_q_0 = refl;
  ad_1_derr = refl;
  ad_1_tpe = refl;
  ad_1_lpe = refl;
  ad_1_kind_1 = refl;
  ad_1_kind_2 = refl;
  ad_1_kind_3 = refl;
}

pub enhanced_stop_read_24_other : EnhancedStopRead24Other
unfolding opened
enhanced_stop_read_24_other = record {
  ad_0_err = refl;
  ad_0_err_x_0 = refl;
  ad_0_err_q_0 = refl;
  ad_0_derr = refl;
  ad_0_tpe = refl;
  ad_0_lpe = refl;
  ad_0_kind_1 = refl;
  ad_0_kind_2 = refl;
  ad_0_kind_3 = refl;
  ad_1_err = refl;
  ad_1_err_x_0 = refl;
  ad_1_err_q_0 = refl;
  ad_1_derr = refl;
  ad_1_tpe = refl;
  ad_1_lpe = refl;
  ad_1_kind_1 = refl;
  ad_1_kind_2 = refl;
  ad_1_kind_3 = refl;
}

pub enhanced_ignore_read_24_other : EnhancedIgnoreRead24Other
unfolding opened
enhanced_ignore_read_24_other = record {
  ad_0_err = refl;
  ad_0_err_x_0 = refl;
  ad_0_err_q_0 = refl;
  ad_0_derr = refl;
  ad_0_tpe = refl;
  ad_0_lpe = refl;
  ad_0_kind_1 = refl;
  ad_0_kind_2 = refl;
  ad_0_kind_3 = refl;
  ad_1_err = refl;
  ad_1_err_x_0 = refl;
  ad_1_err_q_0 = refl;
  ad_1_derr = refl;
  ad_1_tpe = refl;
  ad_1_lpe = refl;
  ad_1_kind_1 = refl;
  ad_1_kind_2 = refl;
  ad_1_kind_3 = refl;
}

pub enhanced_repeat_read_24_other : EnhancedRepeatRead24Other
unfolding opened
enhanced_repeat_read_24_other = record {
  ad_0_err = refl;
  ad_0_err_x_0 = refl;
  ad_0_err_q_0 = refl;
  ad_0_derr = refl;
  ad_0_tpe = refl;
  ad_0_lpe = refl;
  ad_0_kind_1 = refl;
  ad_0_kind_2 = refl;
  ad_0_kind_3 = refl;
  ad_1_err = refl;
  ad_1_err_x_0 = refl;
  ad_1_err_q_0 = refl;
  ad_1_derr = refl;
  ad_1_tpe = refl;
  ad_1_lpe = refl;
  ad_1_kind_1 = refl;
  ad_1_kind_2 = refl;
  ad_1_kind_3 = refl;
}

pub sequencer_read_24_other : SequencerRead24Other
unfolding opened
sequencer_read_24_other = record {
  ad_0_err = refl;
  ad_0_err_x_0 = refl;
  ad_0_err_q_0 = refl;
  ad_0_derr = refl;
  ad_0_tpe = refl;
  ad_0_lpe = refl;
  ad_0_kind_1 = refl;
  ad_0_kind_2 = refl;
  ad_0_kind_3 = refl;
  ad_1_err = refl;
  ad_1_err_x_0 = refl;
  ad_1_err_q_0 = refl;
  ad_1_derr = refl;
  ad_1_tpe = refl;
  ad_1_lpe = refl;
  ad_1_kind_1 = refl;
  ad_1_kind_2 = refl;
  ad_1_kind_3 = refl;
}

pub inline_stop_24_other : InlineStop24Other
unfolding opened
inline_stop_24_other = record {
  ad_0_err = refl;
  ad_0_err_x_0 = refl;
  ad_0_err_q_0 = refl;
  ad_0_derr = refl;
  ad_0_tpe = refl;
  ad_0_lpe = refl;
  ad_0_kind_1 = refl;
  ad_0_kind_2 = refl;
  ad_0_kind_3 = refl;
  ad_1_err = refl;
  ad_1_err_x_0 = refl;
  ad_1_err_q_0 = refl;
  ad_1_derr = refl;
  ad_1_tpe = refl;
  ad_1_lpe = refl;
  ad_1_kind_1 = refl;
  ad_1_kind_2 = refl;
  ad_1_kind_3 = refl;
}

pub inline_ignore_24_other : InlineIgnore24Other
unfolding opened
inline_ignore_24_other = record {
  ad_0_err = refl;
  ad_0_err_x_0 = refl;
  ad_0_err_q_0 = refl;
  ad_0_derr = refl;
  ad_0_tpe = refl;
  ad_0_lpe = refl;
  ad_0_kind_1 = refl;
  ad_0_kind_2 = refl;
  ad_0_kind_3 = refl;
  ad_1_err = refl;
  ad_1_err_x_0 = refl;
  ad_1_err_q_0 = refl;
  ad_1_derr = refl;
  ad_1_tpe = refl;
  ad_1_lpe = refl;
  ad_1_kind_1 = refl;
  ad_1_kind_2 = refl;
  ad_1_kind_3 = refl;
}

pub inline_repeat_24_other : InlineRepeat24Other
unfolding opened
inline_repeat_24_other = record {
  ad_0_err = refl;
  ad_0_err_x_0 = refl;
  ad_0_err_q_0 = refl;
  ad_0_derr = refl;
  ad_0_tpe = refl;
  ad_0_lpe = refl;
  ad_0_kind_1 = refl;
  ad_0_kind_2 = refl;
  ad_0_kind_3 = refl;
  ad_1_err = refl;
  ad_1_err_x_0 = refl;
  ad_1_err_q_0 = refl;
  ad_1_derr = refl;
  ad_1_tpe = refl;
  ad_1_lpe = refl;
  ad_1_kind_1 = refl;
  ad_1_kind_2 = refl;
  ad_1_kind_3 = refl;
}

pub inline_scan_24_other : InlineScan24Other
unfolding opened
inline_scan_24_other = record {
  ad_0_err = refl;
  ad_0_err_x_0 = refl;
  ad_0_err_q_0 = refl;
  ad_0_derr = refl;
  ad_0_tpe = refl;
  ad_0_lpe = refl;
  ad_0_kind_1 = refl;
  ad_0_kind_2 = refl;
  ad_0_kind_3 = refl;
  ad_1_err = refl;
  ad_1_err_x_0 = refl;
  ad_1_err_q_0 = refl;
  ad_1_derr = refl;
  ad_1_tpe = refl;
  ad_1_lpe = refl;
  ad_1_kind_1 = refl;
  ad_1_kind_2 = refl;
  ad_1_kind_3 = refl;
}

pub causes_in_a_stop_single : CausesInAStopSingle
unfolding opened
causes_in_a_stop_single = record {
  ad_0_none = refl;
  ad_0_q = refl;
  ad_0_x = refl;
  ad_0_q_x = refl;
  ad_0_err = refl;
  ad_0_q_err = refl;
  ad_0_x_err = refl;
  ad_0_q_x_err = refl;
  ad_0_lpe = refl;
  ad_0_q_lpe = refl;
  ad_0_x_lpe = refl;
  ad_0_q_x_lpe = refl;
  ad_0_err_lpe = refl;
  ad_0_q_err_lpe = refl;
  ad_0_x_err_lpe = refl;
  ad_0_q_x_err_lpe = refl;
  ad_1_none = refl;
  ad_1_q = refl;
  ad_1_x = refl;
  ad_1_q_x = refl;
  ad_1_err = refl;
  ad_1_q_err = refl;
  ad_1_x_err = refl;
  ad_1_q_x_err = refl;
  ad_1_lpe = refl;
  ad_1_q_lpe = refl;
  ad_1_x_lpe = refl;
  ad_1_q_x_lpe = refl;
  ad_1_err_lpe = refl;
  ad_1_q_err_lpe = refl;
  ad_1_x_err_lpe = refl;
  ad_1_q_x_err_lpe = refl;
}

pub causes_in_a_stop_block : CausesInAStopBlock
unfolding opened
causes_in_a_stop_block = record {
  ad_0_none = refl;
  ad_0_q = refl;
  ad_0_x = refl;
  ad_0_q_x = refl;
  ad_0_err = refl;
  ad_0_q_err = refl;
  ad_0_x_err = refl;
  ad_0_q_x_err = refl;
  ad_0_lpe = refl;
  ad_0_q_lpe = refl;
  ad_0_x_lpe = refl;
  ad_0_q_x_lpe = refl;
  ad_0_err_lpe = refl;
  ad_0_q_err_lpe = refl;
  ad_0_x_err_lpe = refl;
  ad_0_q_x_err_lpe = refl;
  ad_1_none = refl;
  ad_1_q = refl;
  ad_1_x = refl;
  ad_1_q_x = refl;
  ad_1_err = refl;
  ad_1_q_err = refl;
  ad_1_x_err = refl;
  ad_1_q_x_err = refl;
  ad_1_lpe = refl;
  ad_1_q_lpe = refl;
  ad_1_x_lpe = refl;
  ad_1_q_x_lpe = refl;
  ad_1_err_lpe = refl;
  ad_1_q_err_lpe = refl;
  ad_1_x_err_lpe = refl;
  ad_1_q_x_err_lpe = refl;
}

pub causes_on_a_last_try : CausesOnALastTry
unfolding opened
causes_on_a_last_try = record {
  ad_0_none = refl;
  ad_0_q = refl;
  ad_0_x = refl;
  ad_0_q_x = refl;
  ad_0_err = refl;
  ad_0_q_err = refl;
  ad_0_x_err = refl;
  ad_0_q_x_err = refl;
  ad_0_lpe = refl;
  ad_0_q_lpe = refl;
  ad_0_x_lpe = refl;
  ad_0_q_x_lpe = refl;
  ad_0_err_lpe = refl;
  ad_0_q_err_lpe = refl;
  ad_0_x_err_lpe = refl;
  ad_0_q_x_err_lpe = refl;
  ad_1_none = refl;
  ad_1_q = refl;
  ad_1_x = refl;
  ad_1_q_x = refl;
  ad_1_err = refl;
  ad_1_q_err = refl;
  ad_1_x_err = refl;
  ad_1_q_x_err = refl;
  ad_1_lpe = refl;
  ad_1_q_lpe = refl;
  ad_1_x_lpe = refl;
  ad_1_q_x_lpe = refl;
  ad_1_err_lpe = refl;
  ad_1_q_err_lpe = refl;
  ad_1_x_err_lpe = refl;
  ad_1_q_x_err_lpe = refl;
}

pub causes_at_a_last_position : CausesAtALastPosition
unfolding opened
causes_at_a_last_position = record {
  ad_0_none = refl;
  ad_0_q = refl;
  ad_0_x = refl;
  ad_0_q_x = refl;
  ad_0_err = refl;
  ad_0_q_err = refl;
  ad_0_x_err = refl;
  ad_0_q_x_err = refl;
  ad_0_lpe = refl;
  ad_0_q_lpe = refl;
  ad_0_x_lpe = refl;
  ad_0_q_x_lpe = refl;
  ad_0_err_lpe = refl;
  ad_0_q_err_lpe = refl;
  ad_0_x_err_lpe = refl;
  ad_0_q_x_err_lpe = refl;
  ad_1_none = refl;
  ad_1_q = refl;
  ad_1_x = refl;
  ad_1_q_x = refl;
  ad_1_err = refl;
  ad_1_q_err = refl;
  ad_1_x_err = refl;
  ad_1_q_x_err = refl;
  ad_1_lpe = refl;
  ad_1_q_lpe = refl;
  ad_1_x_lpe = refl;
  ad_1_q_x_lpe = refl;
  ad_1_err_lpe = refl;
  ad_1_q_err_lpe = refl;
  ad_1_x_err_lpe = refl;
  ad_1_q_x_err_lpe = refl;
}
