-- The room of a stay is kept by words and waits: marks behind j and then k words are those behind j + k, and a scan that can do k words has not
-- left behind them, unless they were its last.
use Prim.Native.Nat.{ℕ, zero, suc, ◌+◌, ◌-◌, ◌*◌, ◌/◌, ◌%◌, ◌^◌, ◌≤◌, ◌<◌}
use mathlib.Core.Path.{◌≡◌, refl, sym, ap, ◌∙◌, subst}
use mathlib.Core.Bool.{Bool, true, false, false≢true}
use mathlib.Core.List.{List}
use mathlib.Core.Logic.{◌⊎◌, inl, inr}
use native.Mathlib.Omega.{arith}
use borrow.Author.Tests.{eq-eqb, eqb-true, ltb-true, ltb-false}
use lib.Bits.{bit_and, and_shr, and_mod, and_zero_r}
use lib.Dec.{eqb, ltb}
use lib.ListN.{length}
use Rattle.base.proofs.Bools.{and_right}
use Rattle.base.proofs.Tests.{on}
use Rattle.qmodes.specs.Modes.{tries_after}
use Rattle.camac.specs.Words.{mode_in, qmode_bits, qmode_numbered, is_sequencer_in, qmode_in, ad_in, command_in}
use Rattle.camac.proofs.BitLaws.{command_qmode, direction_second, command_wide, command_ad}
use Rattle.qmodes.specs.model.Answers.{word_flags, can_wait, words_ahead, place_after_words, place_after_wait}
use Rattle.qmodes.specs.declared.modes.QMode.{QMode}
use Rattle.qmodes.specs.declared.modes.QMode.TheVariants.{Stop, Ignore, Repeat, Scan}
use Rattle.camac.specs.declared.words.Direction.{Direction}
use Rattle.camac.specs.declared.words.Direction.TheVariants.{Incoming, Outgoing, Neither}
use Rattle.packing.specs.Packing.{width_of, mark_after, mark_after_words, stored}
use Rattle.packing.specs.declared.Marks.{Marks}
use Rattle.packing.specs.model.Marks.{EvenMarks, MarksTo}
use Rattle.packing.proofs.MarkFacts.{mark_grows, words_even}
use Rattle.row.specs.model.Words.{longword_in, flags_at, WordsAt, words_stored}
use Rattle.answers.specs.model.Visit.{rules_of, rules_in, marks_behind, NoteRoom, after_words, bytes_by, bytes_after, after_wait, Words, Waits, Passed, words, wait, Roomy}
use Rattle.answers.specs.declared.Rules.{Rules}
use Rattle.answers.specs.declared.Stay.{Stay}
use Rattle.row.proofs.WordLaws.{words_length, words_none, words_more, first_word}

-- Rules ------------------------------------------------------------------------------------------------------------------

rules_mask : (first : ℕ) → word_flags (qmode_in first) (ad_in first) ≡ (rules_in first).word
unfolding rules_in rules_of
rules_mask first = rw (command_qmode first 0, command_ad first 0)

pub rules_in_lem : (first second : ℕ) → rules_of (command_in first second) ≡ rules_in first
unfolding rules_in rules_of
rules_in_lem first second = rw (
  command_qmode first second,
  direction_second first second,
  command_wide first second,
  command_ad first second,
  command_qmode first 0,
  command_wide first 0,
  command_ad first 0,
)

stricter : (f : ℕ) → bit_and f 0x37 ≡ 3 → bit_and f 0x36 ≡ 2
stricter f e =
    let scan : bit_and f 0x37 / 2 ≡ bit_and (f / 2) 0x1B = and_shr f 0x37 1 in
    let ignored : bit_and f 0x36 / 2 ≡ bit_and (f / 2) 0x1B = and_shr f 0x36 1 in
    let even : bit_and f 0x36 % 2 ≡ 0 = and_mod f 0x36 1 ∙ and_zero_r (f % 2) in
    omega arith

-- a scan's word would be one in ignore
word_ignored : (ad : Bool) (f : ℕ) → eqb (bit_and f (word_flags Scan ad)) (word_flags Scan ad % 4) ≡ true
    → eqb (bit_and f (word_flags Ignore ad)) (word_flags Ignore ad % 4) ≡ true
word_ignored true f e = eq-eqb (bit_and f 0) 0 (and_zero_r f)
word_ignored false f e = eq-eqb (bit_and f 0x36) 2 (stricter f (eqb-true (bit_and f 0x37) 3 e))

-- so that a word by the number of the Q-mode is one, in sequencer mode too
pub word_numbered : (first f m : ℕ) → m ≡ word_flags (qmode_numbered (qmode_bits first)) (ad_in first) → eqb (bit_and f m) (m % 4) ≡ true
    → eqb (bit_and f (rules_in first).word) ((rules_in first).word % 4) ≡ true
word_numbered first f m e h =
    subst (λ (w : ℕ). eqb (bit_and f w) (w % 4) ≡ true) (rules_mask first)
    (on (is_sequencer_in first)
    (λ s. let q : qmode_bits first ≡ 3 = eqb-true (qmode_bits first) 3 (and_right (eqb (mode_in first) 2) _ s) in
    rw s (word_ignored (ad_in first) f (rw (e, q) at h)))
    (λ s. rw s (rw e at h)))

-- by other names
pub passed_as : {rules other : Rules} {limit answers : ℕ} {row b x : List ℕ} {s t : Stay} → rules ≡ other → Passed rules limit row answers s b t x
    → Passed other limit row answers s b t x
passed_as {limit = limit} {answers = answers} {row = row} {b = b} {x = x} {s = s} {t = t} e p =
    subst (λ (y : Rules). Passed y limit row answers s b t x) e p

module _ {rules other : Rules} (e : rules ≡ other) where
  pub roomy_as : {row b : List ℕ} {answers : ℕ} {s : Stay} → Roomy other row answers s b → Roomy rules row answers s b
  roomy_as {row = row} {b = b} {answers = answers} {s = s} m = subst (λ (y : Rules). Roomy y row answers s b) (sym e) m

  pub words_as : {row : List ℕ} {answers k : ℕ} {s : Stay} → Words other row answers s k → Words rules row answers s k
  words_as {row = row} {answers = answers} {k = k} {s = s} w = subst (λ (y : Rules). Words y row answers s k) (sym e) w

-- Marks ------------------------------------------------------------------------------------------------------------------

after_add : (wide : Bool) (j k m : ℕ) → mark_after_words wide k (mark_after_words wide j m) ≡ mark_after_words wide (j + k) m
unfolding mark_after_words
after_add wide j zero m = let e : j ≡ j + 0 = omega arith in ap (λ (n : ℕ). mark_after_words wide n m) e
after_add wide j (suc k) m =
    let e : suc (j + k) ≡ j + suc k = omega arith in
    ap (mark_after wide) (after_add wide j k m) ∙ ap (λ (n : ℕ). mark_after_words wide n m) e

after_grows : (wide : Bool) (k m : ℕ) → m ≤ mark_after_words wide k m
unfolding mark_after_words
after_grows wide zero m = omega arith
after_grows wide (suc k) m = omega (arith, after_grows wide k m, mark_grows wide (mark_after_words wide k m))

pub marks_add : (d : Direction) (wide : Bool) (j k : ℕ) (m : Marks) → marks_behind d wide k (marks_behind d wide j m) ≡ marks_behind d wide (j + k) m
marks_add Incoming wide j k m = ap (λ (n : ℕ). record { incoming = n; outgoing = m.outgoing }) (after_add wide j k m.incoming)
marks_add Outgoing wide j k m = ap (λ (n : ℕ). record { incoming = m.incoming; outgoing = n }) (after_add wide j k m.outgoing)
marks_add Neither wide j k m = refl

pub record Grown (m m' : Marks) : Type 0 where
  pub incoming : m.incoming ≤ m'.incoming
  pub outgoing : m.outgoing ≤ m'.outgoing

pub marks_grow : (d : Direction) (wide : Bool) (k : ℕ) (m : Marks) → Grown m (marks_behind d wide k m)
marks_grow Incoming wide k m = record { incoming = after_grows wide k m.incoming; outgoing = omega arith }
marks_grow Outgoing wide k m = record { incoming = omega arith; outgoing = after_grows wide k m.outgoing }
marks_grow Neither wide k m = record { incoming = omega arith; outgoing = omega arith }

-- with fewer words
pub marks_fewer : (d : Direction) (wide : Bool) (j k : ℕ) (m : Marks) → j ≤ k → Grown (marks_behind d wide j m) (marks_behind d wide k m)
marks_fewer d wide j k m h =
    let e : j + (k - j) ≡ k = omega arith in
    subst (λ (n : ℕ). Grown (marks_behind d wide j m) (marks_behind d wide n m)) e
    (subst (Grown (marks_behind d wide j m)) (marks_add d wide j (k - j) m) (marks_grow d wide (k - j) (marks_behind d wide j m)))

marks_even : (d : Direction) (wide : Bool) (k : ℕ) (m : Marks) → EvenMarks m → EvenMarks (marks_behind d wide k m)
marks_even Incoming wide k m e = record { incoming = words_even wide k m.incoming e.incoming; outgoing = e.outgoing }
marks_even Outgoing wide k m e = record { incoming = e.incoming; outgoing = words_even wide k m.outgoing e.outgoing }
marks_even Neither wide k m e = e

-- behind words read, and behind words written
module _ (d : Direction) (wide : Bool) (m : Marks) (n k : ℕ) where
  pub read_mark : d ≡ Incoming → n ≡ mark_after_words wide k m.incoming → record { incoming = n; outgoing = m.outgoing } ≡ marks_behind d wide k m
  read_mark e h = rw (e, h)

  pub written_mark : d ≡ Outgoing → n ≡ mark_after_words wide k m.outgoing → record { incoming = m.incoming; outgoing = n } ≡ marks_behind d wide k m
  written_mark e h = rw (e, h)

pub mark_one : (wide : Bool) (mark : ℕ) → mark_after wide mark ≡ mark_after_words wide 1 mark
unfolding mark_after_words
mark_one wide mark = refl

word_below : (wide : Bool) (k m : ℕ) → 1 ≤ k → width_of wide ≤ mark_after_words wide k m
unfolding mark_after_words mark_after
word_below wide zero m h = absurd (omega arith)
word_below wide (suc k) m h = omega arith

pub note_room : (d : Direction) (wide : Bool) (k : ℕ) (m : Marks) → 1 ≤ k → NoteRoom d wide (marks_behind d wide k m)
note_room Incoming wide k m h = word_below wide k m.incoming h
note_room Outgoing wide k m h = word_below wide k m.outgoing h
note_room Neither wide k m h = tt

pub bytes_length : (rules : Rules) (row : List ℕ) (k : ℕ) (s : Stay) (b : List ℕ) → length (bytes_after rules row k s b) ≡ length b
unfolding bytes_after
bytes_length rules row k s b = go rules.direction
  where
    go : (d : Direction) → length (bytes_by d rules.wide row s.taken s.marks.incoming k b) ≡ length b
    go Incoming = words_length row s.taken s.marks.incoming rules.wide k b
    go Outgoing = refl
    go Neither = refl

module _ (rules : Rules) (row : List ℕ) (s : Stay) (b : List ℕ) where
  pub bytes_by_lem : (k : ℕ) (d : Direction) (b' : List ℕ) → rules.direction ≡ d → b' ≡ bytes_by d rules.wide row s.taken s.marks.incoming k b
      → b' ≡ bytes_after rules row k s b
  unfolding bytes_after
  bytes_by_lem k d b' e h = h ∙ rw e

  -- words that are written, or a control's
  pub bytes_kept : (k : ℕ) → (rules.direction ≡ Outgoing) ⊎ (rules.direction ≡ Neither) → b ≡ bytes_after rules row k s b
  bytes_kept k (inl e) = bytes_by_lem k Outgoing b e refl
  bytes_kept k (inr e) = bytes_by_lem k Neither b e refl

  -- one word
  pub bytes_one : (b' : List ℕ) → rules.direction ≡ Incoming → b' ≡ stored rules.wide (longword_in row (s.taken * 8)) s.marks.incoming b
      → b' ≡ bytes_after rules row 1 s b
  unfolding words_stored mark_after_words
  bytes_one b' e h =
      let same : s.taken * 8 ≡ (s.taken + 0) * 8 = omega arith in
      bytes_by_lem 1 Incoming b' e (h ∙ ap (λ (at : ℕ). stored rules.wide (longword_in row at) s.marks.incoming b) same)

-- Positions --------------------------------------------------------------------------------------------------------------

pub ahead_most : (q : QMode) (position left : ℕ) → words_ahead q position left ≤ left
ahead_most Stop position left = omega arith
ahead_most Ignore position left = omega arith
ahead_most Repeat position left = omega arith
ahead_most Scan position left =
    on (ltb (0x17F - position + 1) left)
    (λ e. rw e (omega (arith, ltb-true (0x17F - position + 1) left e)))
    (λ e. rw e (omega arith))

-- one word is ahead, wherever it is the last
pub ahead_last : (q : QMode) (position left : ℕ) → left ≡ 1 → 1 ≤ words_ahead q position left
ahead_last Stop position left h = omega arith
ahead_last Ignore position left h = omega arith
ahead_last Repeat position left h = omega arith
ahead_last Scan position left h =
    on (ltb (0x17F - position + 1) left)
    (λ e. absurd (omega (arith, ltb-true (0x17F - position + 1) left e)))
    (λ e. rw e (omega arith))

-- behind words a scan stands at or before its last position, unless they were its last words
pub scan_behind : (q : QMode) (position left k : ℕ) → (q ≡ Scan → position ≤ 0x17F) → k ≤ words_ahead q position left → 1 ≤ left - k → q ≡ Scan
    → place_after_words q position k ≤ 0x17F
scan_behind Stop position left k p h some e = let z : ◌≡◌ {A = ℕ} 0 1 = cc in absurd (omega arith)
scan_behind Ignore position left k p h some e = let z : ◌≡◌ {A = ℕ} 0 1 = cc in absurd (omega arith)
scan_behind Repeat position left k p h some e = let z : ◌≡◌ {A = ℕ} 0 1 = cc in absurd (omega arith)
scan_behind Scan position left k p h some e =
    on (ltb (0x17F - position + 1) left)
    (λ t. let g : k ≤ 0x17F - position = rw t at h in omega (arith, p refl))
    (λ t. let g : k ≤ left = rw t at h in omega (arith, p refl, ltb-false (0x17F - position + 1) left t))

place_words : (q : QMode) (position left k : ℕ) → position < 65536 → (q ≡ Scan → position ≤ 0x17F) → k ≤ words_ahead q position left
    → place_after_words q position k < 65536
place_words Stop position left k h p w = h
place_words Ignore position left k h p w = h
place_words Repeat position left k h p w = h
place_words Scan position left k h p w =
    on (ltb (0x17F - position + 1) left)
    (λ t. let g : k ≤ 0x17F - position = rw t at w in omega (arith, p refl))
    (λ t. let g : k ≤ left = rw t at w in omega (arith, p refl, ltb-false (0x17F - position + 1) left t))

place_wait : (q : QMode) (limit tries position : ℕ) → position < 65536 → can_wait q limit tries position ≡ true → place_after_wait q position < 65536
place_wait Stop limit tries position h c = h
place_wait Ignore limit tries position h c = h
place_wait Repeat limit tries position h c = h
place_wait Scan limit tries position h c = omega (arith, ltb-true position 0x170 c)

scan_wait : (q : QMode) (limit tries position : ℕ) → can_wait q limit tries position ≡ true → q ≡ Scan → place_after_wait q position ≤ 0x17F
scan_wait Stop limit tries position c e = absurd (false≢true c)
scan_wait Ignore limit tries position c e = absurd (false≢true c)
scan_wait Repeat limit tries position c e = let z : ◌≡◌ {A = ℕ} 0 1 = cc in absurd (omega arith)
scan_wait Scan limit tries position c e = omega (arith, ltb-true position 0x170 c)

tries_wait : (q : QMode) (limit tries position : ℕ) → limit < 65536 → can_wait q limit tries position ≡ true → tries_after q false tries < 65536
unfolding tries_after
tries_wait Stop limit tries position h c = omega arith
tries_wait Ignore limit tries position h c = omega arith
tries_wait Repeat limit tries position h c = omega (arith, ltb-true (tries + 1) limit c)
tries_wait Scan limit tries position h c = omega arith

-- Room -------------------------------------------------------------------------------------------------------------------

module _ (rules : Rules) (row : List ℕ) (answers : ℕ) (s : Stay) (b : List ℕ) (m : Roomy rules row answers s b) where
  -- the marks where it stands
  pub marks_to : MarksTo (2 ^ 60) s.marks
  marks_to = record {
    incoming = omega (arith, (marks_grow rules.direction rules.wide s.left s.marks).incoming, m.small);
    outgoing = omega (arith, (marks_grow rules.direction rules.wide s.left s.marks).outgoing, m.outgoing);
    even = m.even;
  }

  pub read_room : (k : ℕ) → k ≤ s.left → (marks_behind rules.direction rules.wide k s.marks).incoming ≤ length b
  read_room k h = omega (arith, (marks_fewer rules.direction rules.wide k s.left s.marks h).incoming, m.incoming)

  -- a read has room for the words that are left
  pub read_in : (k : ℕ) → k ≤ s.left → rules.direction ≡ Incoming → mark_after_words rules.wide k s.marks.incoming ≤ length b
  read_in k h e = subst (λ (d : Direction). (marks_behind d rules.wide k s.marks).incoming ≤ length b) e (read_room k h)

  pub read_one : 1 ≤ s.left → rules.direction ≡ Incoming → mark_after rules.wide s.marks.incoming ≤ length b
  unfolding mark_after_words
  read_one h e = read_in 1 h e

  pub words_left : (k : ℕ) → Words rules row answers s k → k ≤ s.left
  words_left k w = omega (arith, w.ahead, ahead_most rules.q s.position s.left)

  -- what stepping behind them asks, with what is asked of the marks
  pub words_with : {X : Type 0} (k : ℕ) → Words rules row answers s k → s.taken < 2 ^ 61 → X
      → (1 ≤ k) × ((k ≤ s.left) × ((s.left ≤ 65536) × ((s.taken < 2 ^ 61) × ((s.position < 65536) × X))))
  words_with k w t x = (w.some, (words_left k w, (m.left, (t, (m.position, x)))))

  pub roomy_words : (k : ℕ) → Words rules row answers s k → (b' : List ℕ) → length b' ≡ length b → Roomy rules row answers (after_words rules k s) b'
  unfolding after_words
  roomy_words k w b' e =
      let most : k ≤ s.left = words_left k w in
      let whole : k + (s.left - k) ≡ s.left = omega arith in
      let scan : rules.q ≡ Scan → s.position ≤ 0x17F = m.scan (omega (arith, w.some)) in
      let marks = marks_add rules.direction rules.wide k (s.left - k) s.marks
      ∙ ap (λ (n : ℕ). marks_behind rules.direction rules.wide n s.marks) whole in
      record {
        row_formed = m.row_formed;
        within = m.within;
        taken = omega (arith, w.answered, m.within);
        left = omega (arith, m.left);
        tries = omega arith;
        position = place_words rules.q s.position s.left k m.position scan w.ahead;
        scan = λ some q. scan_behind rules.q s.position s.left k scan w.ahead some q;
        incoming = omega (arith, ap (λ (x : Marks). x.incoming) marks, m.incoming, e);
        small = omega (arith, ap (λ (x : Marks). x.incoming) marks, m.small);
        outgoing = omega (arith, ap (λ (x : Marks). x.outgoing) marks, m.outgoing);
        even = marks_even rules.direction rules.wide k s.marks m.even;
      }

  pub roomy_wait : (limit : ℕ) → limit < 65536 → Waits rules limit row answers s → Roomy rules row answers (after_wait rules s) b
  unfolding after_wait
  roomy_wait limit h w = record {
    row_formed = m.row_formed;
    within = m.within;
    taken = omega (arith, w.answered, m.within);
    left = m.left;
    tries = tries_wait rules.q limit s.tries s.position h w.tried;
    position = place_wait rules.q limit s.tries s.position m.position w.tried;
    scan = λ some q. scan_wait rules.q limit s.tries s.position w.tried q;
    incoming = m.incoming;
    small = m.small;
    outgoing = m.outgoing;
    even = m.even;
  }

-- some of the words that may come
module _ {rules : Rules} {row : List ℕ} {answers : ℕ} {s : Stay} {most : ℕ} {k : ℕ}
    (m : (1 ≤ most) × ((most ≤ words_ahead rules.q s.position s.left) × (s.taken + most ≤ answers))) where
  pub some_words : 1 ≤ k → k ≤ most → WordsAt rules.word row s.taken k → Words rules row answers s k
  some_words some few are = record { some = some; ahead = omega arith; answered = omega arith; are = are }

  -- counted, where the first is known to be one
  pub counted_words : Words rules row answers s 1
      → (k ≤ most) × (WordsAt rules.word row s.taken k × (1 ≤ most → eqb (bit_and (flags_at row s.taken) rules.word) (rules.word % 4) ≡ true → 1 ≤ k))
      → Words rules row answers s k
  counted_words w e = some_words (e.1.1 m.0 (first_word rules.word row s.taken w.are)) e.0 e.1.0

-- Turns ------------------------------------------------------------------------------------------------------------------

-- the answer here is a word
pub one_word : (rules : Rules) (row : List ℕ) (answers : ℕ) (s : Stay) → 1 ≤ words_ahead rules.q s.position s.left → s.taken < answers
    → (b : Bool) → b ≡ eqb (bit_and (flags_at row s.taken) rules.word) (rules.word % 4) → b ≡ true → Words rules row answers s 1
one_word rules row answers s h a b e t =
    let same : s.taken ≡ s.taken + 0 = omega arith in
    record {
      some = omega arith;
      ahead = h;
      answered = omega arith;
      are = subst (λ (n : ℕ). WordsAt rules.word row s.taken n) refl
          (words_more rules.word row s.taken 0 (words_none rules.word row s.taken)
          (ap (λ (n : ℕ). eqb (bit_and (flags_at row n) rules.word) (rules.word % 4)) (sym same) ∙ sym e ∙ t));
    }

module _ (rules : Rules) (limit : ℕ) (row : List ℕ) (answers : ℕ) (s : Stay) (b : List ℕ) (t : Stay) (x : List ℕ)
    (p : Passed rules limit row answers s b t x) (m : Roomy rules row answers t x) (e : length x ≡ length b) where
  -- what a loop keeps
  abbrev pub Kept : Stay → List ℕ → Type 0
  Kept u y = Passed rules limit row answers s b u y × (Roomy rules row answers u y × (length y ≡ length b))

  pub words_turn : (k : ℕ) → Words rules row answers t k → (u : Stay) → u ≡ after_words rules k t → (y : List ℕ) → y ≡ bytes_after rules row k t x
      → Kept u y
  words_turn k w u eu y ey =
      let same = bytes_length rules row k t x in
      subst (λ (u : Stay). Kept u y) (sym eu)
      (subst (Kept (after_words rules k t)) (sym ey) (words k p w, (roomy_words rules row answers t x m k w _ same, same ∙ e)))

  pub wait_turn : limit < 65536 → Waits rules limit row answers t → (u : Stay) → u ≡ after_wait rules t → Kept u x
  wait_turn h w u eu = subst (λ (u : Stay). Kept u x) (sym eu) (wait p w, (roomy_wait rules row answers t x m limit h w, e))

pub words_taken : (rules : Rules) (k : ℕ) (s u : Stay) → u ≡ after_words rules k s → (u.taken ≡ s.taken + k) × (u.left ≡ s.left - k)
unfolding after_words
words_taken rules k s u e = (ap (λ (x : Stay). x.taken) e, ap (λ (x : Stay). x.left) e)

pub wait_taken : (rules : Rules) (s u : Stay) → u ≡ after_wait rules s → (u.taken ≡ s.taken + 1) × (u.left ≡ s.left)
unfolding after_wait
wait_taken rules s u e = (ap (λ (x : Stay). x.taken) e, ap (λ (x : Stay). x.left) e)
