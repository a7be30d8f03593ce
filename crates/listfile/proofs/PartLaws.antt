-- What a field that has passed its checks shows of its parts: they lie in the list, and the longwords of a CAMAC field passed 6 to 9.
use Prim.Native.Nat.{ℕ, zero, suc, ◌+◌, ◌≤◌, ◌<◌}
use mathlib.Core.Path.{◌≡◌, refl}
use mathlib.Core.Bool.{true, false}
use mathlib.Core.List.{List}
use native.Mathlib.Omega.{arith}
use borrow.Author.Tests.{eq-eqb, eqb-true, not-false}
use lib.ListN.{length}
use Rattle.base.specs.Bytes.{long_at}
use Rattle.camac.specs.Words.{is_block_in, command_in, camac_fault, decoded_by, decode_of}
use Rattle.camac.specs.model.Bits.{Passes}
use Rattle.camac.specs.declared.words.Command.{Command}
use Rattle.camac.proofs.BitLaws.{passes_long, block_long}
use Rattle.listfile.specs.Fields.{body_length, tag_at, first_at, second_at, wrong_length, head_fault, carried_by, body_of, after_head, field_of}
use Rattle.listfile.specs.model.Table.{instruction_at, FieldPassed}
use Rattle.std.specs.Prelude.{Ok}
use Rattle.listfile.specs.declared.field.Tag.TheVariants.{CamacTag, JumpTag}
use Rattle.listfile.proofs.FieldLaws.{read_head, Lies, field_lies, longwords_least}

module _ (list : List ℕ) (at : ℕ) (p : FieldPassed list at) where
  lies : Lies list at p.count
  lies = field_lies list at p.count (instruction_at list at) p.read

  pub tag_inside : at < length list
  tag_inside = omega (arith, lies.inside)

  pub jump_inside : tag_at list at ≡ JumpTag → at + 5 ≤ length list
  jump_inside t =
      let right : wrong_length JumpTag (body_length list at) ≡ false = rw t at lies.right in
      omega (arith, lies.inside, eqb-true (body_length list at) 2 (not-false _ right))

  module _ (t : tag_at list at ≡ CamacTag) where
    pub camac_inside : at + 7 ≤ length list
    camac_inside =
        let right : wrong_length CamacTag (body_length list at) ≡ false = rw t at lies.right in
        omega (arith, lies.inside, longwords_least (body_length list at) (not-false _ right))

    pub camac_passes : camac_fault (body_length list at) (first_at list at) (second_at list at) ≡ 0
    unfolding field_of body_of decode_of
    camac_passes =
        let read : after_head (head_fault list at p.count) (body_of (tag_at list at) list at) ≡ Ok (instruction_at list at) = p.read in
        go (camac_fault (body_length list at) (first_at list at) (second_at list at)) (command_in (first_at list at) (second_at list at))
        (rw (read_head list at p.count (instruction_at list at) p.read, t) at read)
      where
        go : (f : ℕ) (c : Command) → carried_by (decoded_by f c) ≡ Ok (instruction_at list at) → f ≡ 0
        go zero c e = refl
        go (suc f) c e = let z : ◌≡◌ {A = ℕ} 0 1 = cc in absurd (omega arith)

    pub first_passes : (first : ℕ) → first ≡ first_at list at → Passes first
    first_passes first e = record { len = body_length list at; second = second_at list at; right = rw e camac_passes }

    block_length : is_block_in (first_at list at) ≡ true → body_length list at ≡ 8
    block_length b = passes_long (body_length list at) (first_at list at) (second_at list at) camac_passes (block_long (first_at list at) b)

    pub block_inside : is_block_in (first_at list at) ≡ true → at + 11 ≤ length list
    block_inside b = omega (arith, lies.inside, block_length b)

    pub block_second : is_block_in (first_at list at) ≡ true → second_at list at ≡ long_at list (at + 7)
    unfolding second_at
    block_second b = rw (eq-eqb (body_length list at) 8 (block_length b))
