-- The causes stand from the greatest code on, so that the first that holds is the code of an answer; every cause has a code from 1 to 13.
-- A scan that leaves has no smaller cause beside it but a damaged command, so that without one 9 as the greatest code is the only cause.
use denote.Enum.Bare.{sameb}
use Prim.Native.Nat.{ℕ, ◌≤◌, ◌<◌, max}
use mathlib.Core.Path.{◌≡◌, refl, sym, ◌∙◌}
use mathlib.Core.Bool.{Bool, true, false, ◌&&◌, not, and-false}
use borrow.Author.Tests.{ne_eqb}
use mathlib.Core.List.{List, [], ◌∷◌}
use native.Mathlib.Omega.{arith}
use native.Mathlib.Nat.{max-le, le-max_left}
use lib.Dec.{eqb}
use Rattle.std.specs.Prelude.{Option, Some, None, if◌then◌else◌}
use Rattle.std.specs.Option.{option_eq}
use Rattle.base.specs.Checks.{Check, ◌gives◌, first_of}
use Rattle.base.proofs.Checks.{Numbered}
use Rattle.camac.specs.Words.{qmode_of, is_block}
use Rattle.qmodes.specs.declared.modes.QMode.{QMode}
use Rattle.qmodes.specs.declared.modes.QMode.TheVariants.{Stop, Ignore, Repeat, Scan}
use Rattle.camac.specs.declared.words.Command.{Command}
use Rattle.qmodes.specs.declared.scan.ScanPosition.{ScanPosition}
use Rattle.qmodes.specs.Modes.{spent, scan_leaves, no_x, no_qin_stop}
use Rattle.reply.specs.Causes.{parity_error, damaged, cause_checks, all_that_hold, causes_of, greatest, code_of, only_nine}
use Rattle.qmodes.specs.declared.modes.Answer.{Answer}
use Rattle.reply.specs.declared.replies.Reply.{Reply}
use Rattle.reply.specs.declared.replies.Reply.TheVariants.{Answered, Timeout, NotRecognised, NoSync}
use Rattle.reply.specs.declared.records.Record.{Record}
use Rattle.reply.specs.model.Coded.{code_by, code_or_none}
use Rattle.reply.specs.contracts.causes.Cause.{the_type}
use Rattle.reply.specs.declared.causes.Cause.{Cause}
use Rattle.reply.specs.declared.causes.Cause.TheVariants as cause
use Rattle.base.proofs.Tests.{true_not_false}

-- The greatest code ------------------------------------------------------------------------------------------------------

-- every code of the row is at most k
abbrev Below : ℕ → List Check → Type 0
Below k [] = Unit {0}
Below k (c ∷ cs) = (c.number ≤ k) × Below k cs

greatest_below : (k : ℕ) (cs : List Check) → Below k cs → greatest (all_that_hold cs) ≤ k
greatest_below k [] h = omega arith
greatest_below k (c ∷ cs) h = go c.holds (greatest_below k cs h.1)
  where
    go :
        (t : Bool) → greatest (all_that_hold cs) ≤ k
        → greatest (if t then c.number ∷ all_that_hold cs else all_that_hold cs) ≤ k
    go true g = max-le h.0 g
    go false g = g

-- every code of the row is at most the one before it
abbrev Falling : List Check → Type 0
Falling [] = Unit {0}
Falling (c ∷ cs) = Below c.number cs × Falling cs

-- in a falling row the first check that holds has the greatest code
greatest_first : (cs : List Check) → Falling cs → greatest (all_that_hold cs) ≡ first_of cs
greatest_first [] h = refl
greatest_first (c ∷ cs) h = go c.holds (greatest_first cs h.1)
  where
    go :
        (t : Bool) → greatest (all_that_hold cs) ≡ first_of cs
        → greatest (if t then c.number ∷ all_that_hold cs else all_that_hold cs) ≡ (if t then c.number else first_of cs)
    go true e =
        let small : max c.number (greatest (all_that_hold cs)) ≤ c.number = max-le (omega arith) (greatest_below c.number cs h.0) in
        omega (arith, le-max_left c.number (greatest (all_that_hold cs)))
    go false e = e

code_small : (limit : ℕ) (c : Command) (r : Record) (reply : Reply) → code_of limit c r reply ≤ 13
unfolding code_of causes_of cause_checks
code_small limit c r NoSync = omega arith
code_small limit c r NotRecognised = omega arith
code_small limit c r Timeout = omega arith
code_small limit c r (Answered a) = greatest_below 13 (cause_checks limit (qmode_of c.transfer) (is_block c.transfer) c.ad r a) (omega arith)

pub code_below : (limit : ℕ) (c : Command) (r : Record) (reply : Reply) (x : ℕ) → x ≡ code_of limit c r reply → x ≤ 13
code_below limit c r reply x e = omega (arith, code_small limit c r reply)

-- The row of causes ------------------------------------------------------------------------------------------------------

abbrev row : Bool → Bool → Bool → Bool → Bool → Bool → List ℕ
row s p l x n d = all_that_hold (s gives 11 ∷ p gives 10 ∷ l gives 9 ∷ x gives 8 ∷ n gives 7 ∷ d gives 4 ∷ [])

first_numbered : (cs : List Check) → Numbered cs → {code : ℕ} {codes : List ℕ} → all_that_hold cs ≡ code ∷ codes → 1 ≤ code
first_numbered [] h e = let z : ◌≡◌ {A = ℕ} 0 1 = cc in absurd (omega arith)
first_numbered (c ∷ cs) h {code} {codes} e = go c.holds e (λ f. first_numbered cs h.1 {code = code} {codes = codes} f)
  where
    go :
        (t : Bool) → (if t then c.number ∷ all_that_hold cs else all_that_hold cs) ≡ code ∷ codes
        → (all_that_hold cs ≡ code ∷ codes → 1 ≤ code) → 1 ≤ code
    go true e ih = let same : c.number ≡ code = cc in omega (arith, h.0)
    go false e ih = ih e

-- every cause has a code from 1 on
pub cause_numbered :
    (limit : ℕ) (c : Command) (r : Record) (reply : Reply) {code : ℕ} {codes : List ℕ}
    → causes_of limit c r reply ≡ code ∷ codes → 1 ≤ greatest (code ∷ codes)
unfolding causes_of cause_checks
cause_numbered limit c r reply {code} {codes} e = omega (arith, first reply e, le-max_left code (greatest codes))
  where
    first : (reply : Reply) → causes_of limit c r reply ≡ code ∷ codes → 1 ≤ code
    first NoSync e = let same : 13 ≡ code = cc in omega arith
    first NotRecognised e = let same : 12 ≡ code = cc in omega arith
    first Timeout e = let same : 11 ≡ code = cc in omega arith
    first (Answered a) e = first_numbered (cause_checks limit (qmode_of c.transfer) (is_block c.transfer) c.ad r a) (omega arith) e

-- The code of an answer --------------------------------------------------------------------------------------------------

-- the first that holds, asked one by one
pub code_first :
    (limit : ℕ) (c : Command) (r : Record) (a : Answer)
    → code_of limit c r (Answered a)
    ≡ (if spent limit (qmode_of c.transfer) a r.tries then 11
    else if parity_error c.ad a then 10
    else if scan_leaves (qmode_of c.transfer) a r.position r.left then 9
    else if no_x (qmode_of c.transfer) c.ad a then 8
    else if no_qin_stop (qmode_of c.transfer) (is_block c.transfer) a then 7
    else if damaged c.ad a then 4
    else 0)
unfolding code_of causes_of cause_checks
code_first limit c r a =
    greatest_first (cause_checks limit (qmode_of c.transfer) (is_block c.transfer) c.ad r a) (omega arith)

-- an answer that is no cause
pub record NoCause (limit : ℕ) (c : Command) (r : Record) (a : Answer) : Type 0 where
  pub unspent : spent limit (qmode_of c.transfer) a r.tries ≡ false
  pub parity : parity_error c.ad a ≡ false
  pub stays : scan_leaves (qmode_of c.transfer) a r.position r.left ≡ false
  pub x : no_x (qmode_of c.transfer) c.ad a ≡ false
  pub q : no_qin_stop (qmode_of c.transfer) (is_block c.transfer) a ≡ false
  pub undamaged : damaged c.ad a ≡ false

pub no_causes : {limit : ℕ} {c : Command} {r : Record} {a : Answer} → NoCause limit c r a → causes_of limit c r (Answered a) ≡ []
unfolding causes_of cause_checks
no_causes n = rw (n.unspent, n.parity, n.stays, n.x, n.q, n.undamaged)

-- Nine as the only cause -------------------------------------------------------------------------------------------------

above_nine : (code : ℕ) (codes : List ℕ) (d : Bool) → 9 < code → not d && eqb (greatest (code ∷ codes)) 9 ≡ only_nine (code ∷ codes)
above_nine code codes d h =
    rw (ne_eqb (max code (greatest codes)) 9 (λ e. omega (arith, le-max_left code (greatest codes)))) (and-false (not d) ∙ sym (several codes))
  where
    several : (codes : List ℕ) → only_nine (code ∷ codes) ≡ false
    several [] = ne_eqb code 9 (λ e. omega arith)
    several (d ∷ codes) = refl

nine_alone :
    (s p l x n d : Bool) → (l ≡ true → x ≡ false) → (l ≡ true → n ≡ false)
    → not d && eqb (greatest (row s p l x n d)) 9 ≡ only_nine (row s p l x n d)
nine_alone true p l x n d hx hn =
    above_nine 11 (all_that_hold (p gives 10 ∷ l gives 9 ∷ x gives 8 ∷ n gives 7 ∷ d gives 4 ∷ [])) d (omega arith)
nine_alone false true l x n d hx hn = above_nine 10 (all_that_hold (l gives 9 ∷ x gives 8 ∷ n gives 7 ∷ d gives 4 ∷ [])) d (omega arith)
nine_alone false false true true n d hx hn = absurd (true_not_false (hx refl))
nine_alone false false true false true d hx hn = absurd (true_not_false (hn refl))
nine_alone false false true false false true hx hn = refl
nine_alone false false true false false false hx hn = refl
nine_alone false false false true true true hx hn = refl
nine_alone false false false true true false hx hn = refl
nine_alone false false false true false true hx hn = refl
nine_alone false false false true false false hx hn = refl
nine_alone false false false false true true hx hn = refl
nine_alone false false false false true false hx hn = refl
nine_alone false false false false false true hx hn = refl
nine_alone false false false false false false hx hn = refl

leaving_no_x : (q : QMode) (ad : Bool) (a : Answer) (p : ScanPosition) (left : ℕ) → scan_leaves q a p left ≡ true → no_x q ad a ≡ false
leaving_no_x Stop ad a p left h = absurd (true_not_false (sym h))
leaving_no_x Ignore ad a p left h = absurd (true_not_false (sym h))
leaving_no_x Repeat ad a p left h = absurd (true_not_false (sym h))
leaving_no_x Scan ad a p left h = refl

leaving_no_q : (q : QMode) (block : Bool) (a : Answer) (p : ScanPosition) (left : ℕ)
    → scan_leaves q a p left ≡ true → no_qin_stop q block a ≡ false
leaving_no_q Stop block a p left h = absurd (true_not_false (sym h))
leaving_no_q Ignore block a p left h = refl
leaving_no_q Repeat block a p left h = refl
leaving_no_q Scan block a p left h = refl

-- a cause has a code
pub some_code : (c : Cause) → 1 ≤ code_by c
some_code cause.Damaged = omega arith
some_code cause.NoQ = omega arith
some_code cause.NoX = omega arith
some_code cause.ScanLeft = omega arith
some_code cause.Parity = omega arith
some_code cause.Timeout = omega arith
some_code cause.NotRecognised = omega arith
some_code cause.NoSync = omega arith

-- of the causes, one has the code 9
pub nine_is : (c : Cause) → sameb the_type c cause.ScanLeft ≡ eqb (code_by c) 9
nine_is cause.Damaged = refl
nine_is cause.NoQ = refl
nine_is cause.NoX = refl
nine_is cause.ScanLeft = refl
nine_is cause.Parity = refl
nine_is cause.Timeout = refl
nine_is cause.NotRecognised = refl
nine_is cause.NoSync = refl

-- and nothing, whose code is 0, has not
pub nine_of : (o : Option Cause) → option_eq (sameb the_type) o (Some cause.ScanLeft) ≡ eqb (code_or_none o) 9
nine_of (Some c) = nine_is c
nine_of None = refl

-- "with 9 as the only cause" is 9 as the greatest code of a command that is not damaged
pub only_nine_lem :
    (limit : ℕ) (c : Command) (r : Record) (a : Answer)
    → not (damaged c.ad a) && eqb (code_of limit c r (Answered a)) 9 ≡ only_nine (causes_of limit c r (Answered a))
unfolding code_of causes_of cause_checks
only_nine_lem limit c r a =
    nine_alone
    (spent limit (qmode_of c.transfer) a r.tries)
    (parity_error c.ad a)
    (scan_leaves (qmode_of c.transfer) a r.position r.left)
    (no_x (qmode_of c.transfer) c.ad a)
    (no_qin_stop (qmode_of c.transfer) (is_block c.transfer) a)
    (damaged c.ad a)
    (leaving_no_x (qmode_of c.transfer) c.ad a r.position r.left)
    (leaving_no_q (qmode_of c.transfer) (is_block c.transfer) a r.position r.left)
