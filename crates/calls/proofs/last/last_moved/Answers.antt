-- `last_moved` is `last_moved`, its bytes and its place: the tests come in its order, and a note that lies in a buffer names that buffer
-- and ends within it.
use Prim.Native.Nat.{ℕ, ◌+◌, ◌-◌, ◌≤◌}
use mathlib.Core.Path.{◌≡◌, refl, sym, ◌∙◌}
use mathlib.Core.Bool.{true, false}
use mathlib.Core.List.{List, []}
use native.Mathlib.Nat.{add-sub_cancel_left}
use native.Mathlib.Omega.{arith}
use borrow.Author.Tests.{eqb-true, leb-true}
use lib.Dec.{leb, eqb}
use lib.ListN.{length, take, drop}
use Rattle.base.proofs.Bools.{and_left, and_right}
use Rattle.reply.specs.declared.records.Note.{Note}
use Rattle.calls.specs.Calls.{lies_in, last_moved, place_of}
use Rattle.calls.proofs.last.last_moved.Goals as goal

module _ (buffer end : ℕ) (note : Note) (e : lies_in buffer end note ≡ true) where
  names : note.buffer ≡ buffer
  unfolding lies_in
  names = eqb-true _ _ (and_left (eqb note.buffer buffer) _ (and_right (leb 1 note.size) _ e))

  ends : note.offset + note.size ≤ end
  unfolding lies_in
  ends = leb-true _ _ (and_left _ true (and_right (eqb note.buffer buffer) _ (and_right (leb 1 note.size) _ e)))

-- the contract of a part, by where it begins in its block (at) and where the two buffers do (p, q)
module _ (note : Note) (incoming outgoing : List ℕ) (p q : ℕ × ℕ) (at : ℕ) where
  abbrev Shown : List ℕ → ℕ → Type 0
  Shown bytes block =
      (bytes ≡ (last_moved note incoming outgoing).bytes)
      × ((block, at) ≡ place_of (last_moved note incoming outgoing) p q)

  shown-incoming :
      lies_in 0 (length incoming) note ≡ true → at ≡ p.1 + note.offset
      → Shown (take (note.offset + note.size - note.offset) (drop note.offset incoming)) p.0
  unfolding last_moved
  shown-incoming e h = rw e (simp add-sub_cancel_left, rw (names 0 (length incoming) note e, h))

  shown-outgoing :
      lies_in 0 (length incoming) note ≡ false → lies_in 1 (length outgoing) note ≡ true → at ≡ q.1 + note.offset
      → Shown (take (note.offset + note.size - note.offset) (drop note.offset outgoing)) q.0
  unfolding last_moved
  shown-outgoing n e h = rw (n, e) (simp add-sub_cancel_left, rw (names 1 (length outgoing) note e, h))

  shown-none :
      lies_in 0 (length incoming) note ≡ false → lies_in 1 (length outgoing) note ≡ false → at ≡ p.1 + 0 → Shown [] p.0
  unfolding last_moved
  shown-none n m h = rw (n, m) (refl, rw h)

pub overflow_add-result : goal.overflow_add-result
overflow_add-result c = omega (arith, ends _ _ _ (sym c.lies_in.ensures ∙ c.if-lies_in.true))

pub slice_bounds-result-end : goal.slice_bounds-result-end
slice_bounds-result-end c = omega (arith, ends _ _ _ (sym c.lies_in.ensures ∙ c.if-lies_in.true))

pub returns-then-lies_in : goal.returns-then-lies_in
returns-then-lies_in c =
    let shown = shown-incoming _ _ _ c.args.incoming.ref_ptr c.args.outgoing.ref_ptr _ (sym c.lies_in.ensures ∙ c.if-lies_in.true) (omega arith) in
    record { bytes = shown.0; place = shown.1 }

pub overflow_add-result-then-lies_in-2 : goal.overflow_add-result-then-lies_in-2
overflow_add-result-then-lies_in-2 c = omega (arith, ends _ _ _ (sym c.lies_in-2.ensures ∙ c.if-lies_in-2.true))

pub slice_bounds-result-end-then-lies_in-2 : goal.slice_bounds-result-end-then-lies_in-2
slice_bounds-result-end-then-lies_in-2 c = omega (arith, ends _ _ _ (sym c.lies_in-2.ensures ∙ c.if-lies_in-2.true))

pub returns-then-lies_in-2 : goal.returns-then-lies_in-2
returns-then-lies_in-2 c =
    let shown = shown-outgoing _ _ _ c.args.incoming.ref_ptr c.args.outgoing.ref_ptr _ (sym c.lies_in.ensures ∙ c.if-lies_in.false) (sym c.lies_in-2.ensures ∙ c.if-lies_in-2.true) (omega arith) in
    record { bytes = shown.0; place = shown.1 }

pub returns : goal.returns
returns c =
    let shown = shown-none _ _ _ c.args.incoming.ref_ptr c.args.outgoing.ref_ptr _ (sym c.lies_in.ensures ∙ c.if-lies_in.false) (sym c.lies_in-2.ensures ∙ c.if-lies_in-2.false) (omega arith) in
    record { bytes = shown.0; place = shown.1 }
