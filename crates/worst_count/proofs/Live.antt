-- Live is what fit says, as facts and not as a test: a record that fits is live, and on a walk that visits no instruction twice a live record
-- fits, because its instruction's number finds its place there.
use Prim.Native.Nat.{ℕ, ◌+◌, ◌-◌, ◌%◌, ◌≤◌}
use mathlib.Core.Path.{◌≡◌, refl, sym, ap, ◌∙◌, subst}
use mathlib.Core.Logic.{◌⊎◌, inl, inr}
use mathlib.Core.Bool.{Bool, true, false, ◌&&◌, ◌||◌, not, false≢true}
use mathlib.Core.List.{List, [], ◌∷◌, ◌++◌}
use native.Mathlib.Omega.{arith}
use borrow.Author.Tests.{eq-eqb, le-leb, lt-ltb, eqb-true, leb-true, ltb-true, not-true}
use lib.Dec.{leb, eqb}
use lib.Bits.{bit_and}
use Rattle.base.specs.Checks.{all_of}
use Rattle.camac.specs.Words.{qmode_of, words_of, position_of}
use Rattle.qmodes.specs.declared.modes.QMode.{QMode}
use Rattle.qmodes.specs.declared.modes.QMode.TheVariants.{Stop, Ignore, Repeat, Scan}
use Rattle.camac.specs.declared.words.Command.{Command}
use Rattle.qmodes.specs.declared.scan.ScanPosition.{ScanPosition}
use Rattle.qmodes.proofs.MostFalls.{TriesOk, PositionOk, Near, Room}
use Rattle.base.proofs.Bools.{both, and_left, and_right, or_cases, or_left, or_right}
use Rattle.packing.specs.declared.Marks.{Marks}
use Rattle.packing.specs.model.Marks.{EvenMarks}
use Rattle.listfile.specs.declared.field.Instruction.{Instruction}
use Rattle.listfile.specs.declared.field.Instruction.TheVariants.{Camac, Jump, Literal, Halt}
use Rattle.walk.specs.Walk.{Visit, up_to, on_from, no_marks, moved_words, marks_over}
use Rattle.walk.specs.Worst.{worst_over}
use Rattle.walk.specs.Admission.{Plan}
use Rattle.walk.proofs.Halting.{Distinct, found, Halts, halts_after, Well, well_after}
use Rattle.reply.specs.Status.{waiting_bits}
use Rattle.qmodes.specs.Modes.{most_left, tries_fit, same_position, position_fits}
use Rattle.calls.specs.Fit.{mark_fits, marks_fit, note_fits, fits_at, fits_from, fits}
use Rattle.reply.specs.declared.records.Note.{Note}
use Rattle.reply.specs.declared.records.Record.{Record}
use Rattle.worst_count.specs.WorstCount.{WaitsAt}
use Rattle.worst_count.proofs.StatusBits.{Only}
use Rattle.walk.specs.declared.visits.Spot.{Spot}
use Rattle.walk.proofs.Spots.{split_at, on_from_spot}
use Rattle.walk.proofs.MarksGrow.{BelowMarks, below_self, by_even, words_even, by_order, marks_even}
use Rattle.walk.specs.Walk.{moved_by}
use Rattle.camac.specs.declared.words.Direction.{Direction}

-- the visit of a CAMAC instruction
abbrev pub camac_visit : Spot → ℕ → Command → Visit
camac_visit k place c = record { spot = k; place = place; instruction = Camac c }

pub data NoteOk (n : Note) (m : Marks) : Type 0 where
  unmoved : n.buffer ≡ 0 → n.offset ≡ 0 → n.size ≡ 0 → NoteOk n m
  read : n.buffer ≡ 0 → (n.size ≡ 2) ⊎ (n.size ≡ 4) → n.offset + n.size ≤ m.incoming → NoteOk n m
  wrote : n.buffer ≡ 1 → (n.size ≡ 2) ⊎ (n.size ≡ 4) → n.offset + n.size ≤ m.outgoing → NoteOk n m

-- marks that are even and at most those of the walk with the moved words
pub record Under (m m' : Marks) : Type 0 where
  pub below : BelowMarks m m'
  pub even : EvenMarks m

-- the slowest run, which closes no block, has those of the walk
abbrev pub MarksOk : Bool → Marks → Marks → Type 0
MarksOk true m m' = m ≡ m'
MarksOk false m m' = Under m m'

pub marks_ok_start : (slow : Bool) → MarksOk slow no_marks no_marks
marks_ok_start true = refl
marks_ok_start false = record { below = below_self no_marks; even = record { incoming = refl; outgoing = refl } }

pub marks_ok_same : (slow : Bool) (m m' m'' : Marks) → MarksOk slow m m' → m' ≡ m'' → MarksOk slow m m''
marks_ok_same true m m' m'' h e = h ∙ e
marks_ok_same false m m' m'' h e = subst (Under m) e h

pub marks_ok_under : (slow : Bool) (m m' : Marks) → EvenMarks m' → MarksOk slow m m' → Under m m'
marks_ok_under true m m' e h = subst (λ (x : Marks). Under x m') (sym h) (record { below = below_self m'; even = e })
marks_ok_under false m m' e h = h

pub marks_ok_by : (slow : Bool) (d : Direction) (wide : Bool) (m m' : Marks) → MarksOk slow m m' → MarksOk slow (moved_by d wide m) (moved_by d wide m')
marks_ok_by true d wide m m' h = ap (moved_by d wide) h
marks_ok_by false d wide m m' h = record { below = by_order d wide m m' h.even h.below; even = by_even d wide m h.even }

-- a record that waits at a CAMAC instruction of the walk, with `pre` before it and `post` after it
pub record Live (slow : Bool) (p : Plan) (r : Record) : Type 0 where
  pub pre : List Visit
  pub place : ℕ
  pub command : Command
  pub post : List Visit
  pub split : p.visits ≡ pre ++ camac_visit r.spot place command ∷ post
  pub waits : r.ended ≡ false
  pub some : 1 ≤ r.left
  pub most : r.left ≤ words_of command.transfer
  pub tried : TriesOk p.limit (qmode_of command.transfer) r.tries
  pub position : PositionOk (qmode_of command.transfer) (position_of command.transfer) r.position
  pub marks : MarksOk slow r.marks (moved_words (words_of command.transfer - r.left) command (marks_over pre no_marks))
  pub bound : Near slow (r.operations + most_left p.limit (qmode_of command.transfer) r.position r.left r.tries
      (worst_over p.limit post))
      (worst_over p.limit p.visits)
  pub room : Room slow (qmode_of command.transfer) r.position r.left
  pub status : Only waiting_bits r.status
  pub noted : NoteOk r.note r.marks

pub near_le : (slow : Bool) (a b : ℕ) → Near slow a b → a ≤ b
near_le true a b h = omega arith
near_le false a b h = h

-- the visits after a live record's instruction end with the halt, and are sound
pub live_halts : (slow : Bool) (p : Plan) (r : Record) (l : Live slow p r) → Halts p.visits → Halts l.post
live_halts slow p r l h = halts_after l.pre (camac_visit r.spot l.place l.command) l.post refl (subst Halts l.split h)

pub live_well : (slow : Bool) (p : Plan) (r : Record) (l : Live slow p r) → Well p.visits → Well l.post
live_well slow p r l h = (well_after l.pre (camac_visit r.spot l.place l.command) l.post (subst Well l.split h)).1

-- its marks are even and at most those of the walk
pub live_under : (slow : Bool) (p : Plan) (r : Record) (l : Live slow p r)
    → Under r.marks (moved_words (words_of l.command.transfer - r.left) l.command (marks_over l.pre no_marks))
live_under slow p r l =
    marks_ok_under slow r.marks _
    (words_even (words_of l.command.transfer - r.left) l.command (marks_over l.pre no_marks) (marks_even l.pre)) l.marks

-- a record waits at one operation
pub waits_once : {p : Plan} {r : Record} {c c' : Command} {rest rest' : List Visit} → WaitsAt p r c rest → WaitsAt p r c' rest'
    → (c ≡ c') × (rest ≡ rest')
waits_once {c = c} {c' = c'} {rest = rest} {rest' = rest'} a b =
    let same : a.visit ∷ rest ≡ b.visit ∷ rest' = sym a.found ∙ b.found in
    let visits : a.visit ≡ b.visit = cc in
    let commands : Camac c ≡ Camac c' = sym a.camac ∙ ap (λ (v : Visit). v.instruction) visits ∙ b.camac in
    (cc, cc)

-- Live, then fits --------------------------------------------------------------------------------------------------------

tries_fit_lem : (limit : ℕ) (q : QMode) (t : ℕ) → TriesOk limit q t → tries_fit limit q t ≡ true
tries_fit_lem limit Stop t h = eq-eqb t 0 h
tries_fit_lem limit Ignore t h = eq-eqb t 0 h
tries_fit_lem limit Repeat t h = lt-ltb t limit h
tries_fit_lem limit Scan t h = eq-eqb t 0 h

same_fits : (from p : ScanPosition) → p ≡ from → same_position p from ≡ true
same_fits from p e =
    both (eq-eqb p.station from.station (ap (λ (x : ScanPosition). x.station) e))
    (eq-eqb p.subaddress from.subaddress (ap (λ (x : ScanPosition). x.subaddress) e))

position_fits_lem : (q : QMode) (from p : ScanPosition) → PositionOk q from p → position_fits q from p ≡ true
position_fits_lem Stop from p h = same_fits from p h
position_fits_lem Ignore from p h = same_fits from p h
position_fits_lem Repeat from p h = same_fits from p h
position_fits_lem Scan from p h = both (le-leb _ _ h.station) (both (le-leb _ _ h.subaddress) (le-leb _ _ h.onward))

size_fits : (n : ℕ) → (n ≡ 2) ⊎ (n ≡ 4) → eqb n 2 || eqb n 4 ≡ true
size_fits n (inl e) = or_left (eqb n 4) (eq-eqb n 2 e)
size_fits n (inr e) = or_right (eqb n 2) (eq-eqb n 4 e)

abbrev zeros : Note → Bool
zeros n = all_of (eqb n.buffer 0 ∷ eqb n.offset 0 ∷ eqb n.size 0 ∷ [])

note_fits_lem : (n : Note) (m : Marks) → NoteOk n m → note_fits n m ≡ true
unfolding note_fits
note_fits_lem n m (unmoved b o s) = or_left _ (both (eq-eqb _ _ b) (both (eq-eqb _ _ o) (both (eq-eqb _ _ s) refl)))
note_fits_lem n m (read b s h) = or_right (zeros n) (both (size_fits _ s) (or_left _ (both (eq-eqb _ _ b) (le-leb _ _ h))))
note_fits_lem n m (wrote b s h) =
    or_right (zeros n) (both (size_fits _ s)
    (or_right (eqb n.buffer 0 && leb (n.offset + n.size) m.incoming) (both (eq-eqb _ _ b) (le-leb _ _ h))))

mark_fits_lem : (m n : ℕ) → m % 2 ≡ 0 → m ≤ n → mark_fits m n ≡ true
mark_fits_lem m n e h = both (eq-eqb _ _ e) (le-leb _ _ h)

marks_fit_lem : (c : Command) (m : Marks) (r : Record) → Under r.marks (moved_words (words_of c.transfer - r.left) c m) → marks_fit c m r ≡ true
unfolding marks_fit
marks_fit_lem c m r u = both (mark_fits_lem _ _ u.even.incoming u.below.incoming) (mark_fits_lem _ _ u.even.outgoing u.below.outgoing)

pub found_at : (ws pre : List Visit) (v : Visit) (post : List Visit) → Distinct ws → ws ≡ pre ++ v ∷ post
    → (up_to v.spot ws ≡ pre) × (on_from v.spot ws ≡ v ∷ post)
found_at ws pre v post d e = rw e (found pre v post (rw e at d))

module _ (slow : Bool) (p : Plan) (r : Record) (d : Distinct p.visits) (l : Live slow p r) where
  live_before : up_to r.spot p.visits ≡ l.pre
  live_before = (found_at p.visits l.pre (camac_visit r.spot l.place l.command) l.post d l.split).0

  pub live_on : on_from r.spot p.visits ≡ camac_visit r.spot l.place l.command ∷ l.post
  live_on = (found_at p.visits l.pre (camac_visit r.spot l.place l.command) l.post d l.split).1

  pub live_waits : WaitsAt p r l.command l.post
  live_waits = record { visit = camac_visit r.spot l.place l.command; found = live_on; camac = refl }

  pub live_fits : fits p r ≡ true
  unfolding fits fits_from fits_at
  live_fits = rw (live_before, live_on)
      (both (ap not l.waits) (both (le-leb _ _ l.some)
      (both (le-leb _ _ l.most) (both (tries_fit_lem p.limit (qmode_of l.command.transfer) r.tries l.tried)
      (both (position_fits_lem (qmode_of l.command.transfer) (position_of l.command.transfer) r.position l.position)
      (both (marks_fit_lem l.command (marks_over l.pre no_marks) r (live_under slow p r l))
      (both (le-leb _ _ (near_le slow _ _ l.bound)) (both (eq-eqb _ _ l.status.same) (both (note_fits_lem _ _ l.noted) refl)))))))))

-- Fits, then live --------------------------------------------------------------------------------------------------------

tries_ok : (limit : ℕ) (q : QMode) (t : ℕ) → tries_fit limit q t ≡ true → TriesOk limit q t
tries_ok limit Stop t h = eqb-true t 0 h
tries_ok limit Ignore t h = eqb-true t 0 h
tries_ok limit Repeat t h = ltb-true t limit h
tries_ok limit Scan t h = eqb-true t 0 h

same_ok : (from p : ScanPosition) → same_position p from ≡ true → p ≡ from
same_ok from p h =
    let n : p.station ≡ from.station = eqb-true _ _ (and_left _ _ h) in
    let a : p.subaddress ≡ from.subaddress = eqb-true _ _ (and_right (eqb p.station from.station) _ h) in
    λ i. record { station = n i; subaddress = a i }

position_ok : (q : QMode) (from p : ScanPosition) → position_fits q from p ≡ true → PositionOk q from p
position_ok Stop from p h = same_ok from p h
position_ok Ignore from p h = same_ok from p h
position_ok Repeat from p h = same_ok from p h
position_ok Scan from p h =
    let g = and_right (leb p.station 23) _ h in
    record {
      station = leb-true _ _ (and_left _ _ h);
      subaddress = leb-true _ _ (and_left _ _ g);
      onward = leb-true _ _ (and_right (leb p.subaddress 15) _ g);
    }

size_ok : (n : ℕ) → eqb n 2 || eqb n 4 ≡ true → (n ≡ 2) ⊎ (n ≡ 4)
size_ok n h = go (or_cases (eqb n 2) (eqb n 4) h)
  where
    go : (eqb n 2 ≡ true) ⊎ (eqb n 4 ≡ true) → (n ≡ 2) ⊎ (n ≡ 4)
    go (inl e) = inl (eqb-true _ _ e)
    go (inr e) = inr (eqb-true _ _ e)

note_ok : (n : Note) (m : Marks) → note_fits n m ≡ true → NoteOk n m
unfolding note_fits
note_ok n m h = go (or_cases (zeros n) _ h)
  where
    reads : Bool
    reads = eqb n.buffer 0 && leb (n.offset + n.size) m.incoming

    writes : Bool
    writes = eqb n.buffer 1 && leb (n.offset + n.size) m.outgoing

    moved_one : (eqb n.size 2 || eqb n.size 4) ≡ true → (reads ≡ true) ⊎ (writes ≡ true) → NoteOk n m
    moved_one s (inl e) = read (eqb-true _ _ (and_left _ _ e)) (size_ok _ s) (leb-true _ _ (and_right (eqb n.buffer 0) _ e))
    moved_one s (inr e) = wrote (eqb-true _ _ (and_left _ _ e)) (size_ok _ s) (leb-true _ _ (and_right (eqb n.buffer 1) _ e))

    go : (zeros n ≡ true) ⊎ (((eqb n.size 2 || eqb n.size 4) && (reads || writes)) ≡ true) → NoteOk n m
    go (inl e) =
        let f = and_right (eqb n.buffer 0) _ e in
        unmoved (eqb-true _ _ (and_left _ _ e)) (eqb-true _ _ (and_left _ _ f)) (eqb-true _ _ (and_left _ _ (and_right (eqb n.offset 0) _ f)))
    go (inr e) = moved_one (and_left _ _ e) (or_cases reads writes (and_right (eqb n.size 2 || eqb n.size 4) _ e))

room_ok : (q : QMode) (p : ScanPosition) (left : ℕ) → Room false q p left
room_ok Stop p left = tt
room_ok Ignore p left = tt
room_ok Repeat p left = tt
room_ok Scan p left = tt

mark_ok : (m n : ℕ) → mark_fits m n ≡ true → (m % 2 ≡ 0) × (m ≤ n)
mark_ok m n h = (eqb-true _ _ (and_left _ _ h), leb-true _ _ (and_right (eqb (m % 2) 0) _ h))

marks_ok : (c : Command) (m : Marks) (r : Record) → marks_fit c m r ≡ true → Under r.marks (moved_words (words_of c.transfer - r.left) c m)
unfolding marks_fit
marks_ok c m r h =
    let old : Marks = moved_words (words_of c.transfer - r.left) c m in
    let i = mark_ok r.marks.incoming old.incoming (and_left _ _ h) in
    let o = mark_ok r.marks.outgoing old.outgoing (and_right (mark_fits r.marks.incoming old.incoming) _ h) in
    record { below = record { incoming = i.1; outgoing = o.1 }; even = record { incoming = i.0; outgoing = o.0 } }

pub fits_live : (p : Plan) (r : Record) → fits p r ≡ true → Live false p r
unfolding fits fits_from fits_at
fits_live p r h = from_visits (on_from r.spot p.visits) refl h
  where
    worst : ℕ
    worst = worst_over p.limit p.visits

    m : Marks
    m = marks_over (up_to r.spot p.visits) no_marks

    from_visits : (vs : List Visit) → on_from r.spot p.visits ≡ vs → fits_from p.limit worst m vs r ≡ true → Live false p r
    from_visits [] e h = absurd (false≢true h)
    from_visits (v ∷ rest) e h = from_instruction v.instruction refl h
      where
        from_instruction : (i : Instruction) → v.instruction ≡ i
            → fits_from p.limit worst m (record { spot = v.spot; place = v.place; instruction = i } ∷ rest) r ≡ true → Live false p r
        from_instruction (Jump target) q h = absurd (false≢true h)
        from_instruction (Literal x) q h = absurd (false≢true h)
        from_instruction Halt q h = absurd (false≢true h)
        from_instruction (Camac c) q h =
            let n : v.spot ≡ r.spot = on_from_spot r.spot p.visits v rest e in
            let same : v ≡ camac_visit r.spot v.place c = λ i. record { spot = n i; place = v.place; instruction = q i } in
            let h₁ = and_right (not r.ended) _ h in
            let h₂ = and_right (leb 1 r.left) _ h₁ in
            let h₃ = and_right (leb r.left (words_of c.transfer)) _ h₂ in
            let h₄ = and_right (tries_fit p.limit (qmode_of c.transfer) r.tries) _ h₃ in
            let h₅ = and_right (position_fits (qmode_of c.transfer) (position_of c.transfer) r.position) _ h₄ in
            let h₆ = and_right (marks_fit c m r) _ h₅ in
            let h₇ = and_right (leb (r.operations + most_left p.limit (qmode_of c.transfer) r.position r.left r.tries
            (worst_over p.limit rest)) worst) _ h₆ in
            let h₈ = and_right (eqb (bit_and r.status waiting_bits) r.status) _ h₇ in
            record {
              pre = up_to r.spot p.visits;
              place = v.place;
              command = c;
              post = rest;
              split = split_at r.spot p.visits
                  ∙ ap (λ (l : List Visit). up_to r.spot p.visits ++ l) (e ∙ ap (λ (u : Visit). u ∷ rest) same);
              waits = not-true _ (and_left _ _ h);
              some = leb-true _ _ (and_left _ _ h₁);
              most = leb-true _ _ (and_left _ _ h₂);
              tried = tries_ok p.limit (qmode_of c.transfer) r.tries (and_left _ _ h₃);
              position = position_ok (qmode_of c.transfer) (position_of c.transfer) r.position (and_left _ _ h₄);
              marks = marks_ok c m r (and_left _ _ h₅);
              bound = leb-true _ _ (and_left _ _ h₆);
              room = room_ok (qmode_of c.transfer) r.position r.left;
              status = record { same = eqb-true _ _ (and_left _ _ h₇) };
              noted = note_ok r.note r.marks (and_left _ _ h₈);
            }
