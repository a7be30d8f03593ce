-- The room for a word and its bytes, by the direction of its instruction; a counted reply leaves the marks.
use Prim.Native.Nat.{ℕ, ◌≤◌}
use mathlib.Core.Path.{◌≡◌, refl, sym, ◌∙◌, subst}
use mathlib.Core.Bool.{Bool}
use mathlib.Core.List.{List}
use native.Mathlib.Omega.{arith}
use Rattle.camac.specs.Words.{direction_of}
use Rattle.camac.specs.declared.words.Command.{Command}
use Rattle.camac.specs.declared.words.Direction.{Direction}
use Rattle.camac.specs.declared.words.Direction.TheVariants.{Incoming, Outgoing, Neither}
use Rattle.packing.specs.Packing.{mark_after, stored}
use Rattle.packing.specs.declared.Marks.{Marks}
use Rattle.packing.proofs.MarkFacts.{mark_grows}
use Rattle.walk.specs.Walk.{moved_by, moved}
use Rattle.reply.specs.Effect.{moved_bytes, counted}
use Rattle.take.specs.model.Here.{incoming_after}
use Rattle.reply.specs.declared.replies.Reply.{Reply}
use Rattle.reply.specs.declared.records.Record.{Record}

-- Marks and room ---------------------------------------------------------------------------------------------------------

pub by_mark :
    (d : Direction) (wide : Bool) (m : Marks)
    → (moved_by d wide m).incoming ≡ (moved_by d wide (record { incoming = m.incoming; outgoing = 0 })).incoming
by_mark Incoming wide m = refl
by_mark Outgoing wide m = refl
by_mark Neither wide m = refl

grows : (d : Direction) (wide : Bool) (m : Marks) → m.incoming ≤ (moved_by d wide m).incoming
grows Incoming wide m = mark_grows wide m.incoming
grows Outgoing wide m = omega arith
grows Neither wide m = omega arith

pub room_after : (c : Command) (m : Marks) (n : ℕ) → (moved c m).incoming ≤ n → incoming_after c m.incoming ≤ n
unfolding moved incoming_after
room_after c m n h = omega (arith, by_mark (direction_of c.transfer) c.wide m)

pub mark_within : (c : Command) (m : Marks) (n : ℕ) → (moved c m).incoming ≤ n → m.incoming ≤ n
unfolding moved
mark_within c m n h = omega (arith, grows (direction_of c.transfer) c.wide m)

module _ (c : Command) (d : Direction) (ed : d ≡ direction_of c.transfer) where
  pub room_incoming : (mark n : ℕ) → d ≡ Incoming → incoming_after c mark ≤ n → mark_after c.wide mark ≤ n
  unfolding incoming_after moved
  room_incoming mark n e h =
      subst (λ (x : Direction). (moved_by x c.wide (record { incoming = mark; outgoing = 0 })).incoming ≤ n) (sym ed ∙ e) h

  module _ (word mark : ℕ) (buffer : List ℕ) where
    pub stored_incoming :
        (x : List ℕ) → d ≡ Incoming → x ≡ stored c.wide word mark buffer → x ≡ moved_bytes c word mark buffer
    unfolding moved_bytes
    stored_incoming x e h = h ∙ rw (← ed, e)

    pub stored_outgoing : d ≡ Outgoing → buffer ≡ moved_bytes c word mark buffer
    unfolding moved_bytes
    stored_outgoing e = rw (← ed, e)

    pub stored_neither : d ≡ Neither → buffer ≡ moved_bytes c word mark buffer
    unfolding moved_bytes
    stored_neither e = rw (← ed, e)

pub counted_marks : (limit : ℕ) (c : Command) (reply : Reply) (r : Record) → (counted limit c reply r).marks ≡ r.marks
unfolding counted
counted_marks limit c reply r = refl
