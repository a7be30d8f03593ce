-- `read_stretch`: where the gathered bits lack those that are zero in answers, each reply lacks them, and is a formed answer.
use Prim.Native.Nat.{ℕ, ◌-◌, ◌*◌}
use mathlib.Core.Path.{sym, ap, ◌∙◌}
use native.Mathlib.Omega.{arith}
use lib.Bits.{bit_and}
use Rattle.row.proofs.ReadLaws.{each_lacks, answer_kind, answer_formed}
use Rattle.row.proofs.reading.read_stretch.Goals as goal

pub returns-then-any_bits-eq0 : goal.returns-then-any_bits-eq0
returns-then-any_bits-eq0 c =
    let row = c.args.row.now in
    let byte = c.type_inv.row in
    let a = c.args in
    let lacks =
    each_lacks row a.from (a.to - a.from) 18374686483966574847
    (ap (λ (b : ℕ). bit_and b 18374686483966574847) (sym c.any_bits.ensures) ∙ c.if-any_bits-eq0.true) in (
      omega arith,
      (
        λ j l f. answer_formed row (j * 8) (omega arith) (λ i. omega (arith, byte i)) (lacks j (omega arith) f),
        λ j l f b. answer_kind row (j * 8) (omega arith) (λ i. omega (arith, byte i)) (lacks j (omega arith) f),
      ),
    )
