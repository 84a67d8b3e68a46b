-- The search for the places from which what a bidder has can be reached. Null is place 0, item i is place i, and bit p of a set stands for place p.
-- w has the bidders' demands and x what they have, by the bidder's place b from 0; bidder k is the next, and those after it up to n may move.
-- Assumes nothing: these are definitions.
use Rattle.std.specs.Prelude.{ℕ, suc, ◌+◌, ◌*◌, ◌%◌, ◌≤◌, ◌<◌, ◌≡◌, Bool, true, false, cond, ◌⊎◌, List, length, get_or}
use Rattle.std.specs.Int.Bits.{bit_or}
use Rattle.sets.specs.Bit.{is_set}
use Rattle.rule.specs.Assignment.{option}

-- of the bidders so far, who have ys, nobody has p, or p is null
abbrev pub Open : List ℕ → ℕ → Type 0
Open ys p = (c : ℕ) → c < length ys → 0 < p → option ys c ≡ p → ⊥

-- the open places; of these null and the items at their floors, and null and the items that nobody has
pub record Sorted (m n : ℕ) (above : ℕ → Bool) (ys : List ℕ) (x : ℕ → ℕ) (opens zeros spares : ℕ → Bool) : Type 0 where
  pub open_use : (p : ℕ) → p < suc m → opens p ≡ true → Open ys p
  pub open_make : (p : ℕ) → p < suc m → Open ys p → opens p ≡ true
  pub zero_use : (p : ℕ) → p < suc m → zeros p ≡ true → (opens p ≡ true) × (above p ≡ false)
  pub zero_make : (p : ℕ) → p < suc m → opens p ≡ true → above p ≡ false → zeros p ≡ true
  pub spare_use : (p : ℕ) → p < suc m → 0 < p → spares p ≡ true → (opens p ≡ true) × ((b : ℕ) → length ys ≤ b → b < n → x b ≡ p → ⊥)
  pub spare_make : (p : ℕ) → p < suc m → 0 < p → opens p ≡ true → ((b : ℕ) → length ys ≤ b → b < n → x b ≡ p → ⊥) → spares p ≡ true
  pub spare_null : spares 0 ≡ true

-- where the way goes on from q: an item that nobody has is as good as null
unfoldable pub goes_on : ℕ → ℕ → ℕ
goes_on spare q = cond (is_set spare q) 0 q

-- who has what: open places only, of which the spare ones are null and those that nobody has
pub record Seated (x : List ℕ) (opens spare k n : ℕ) : Type 0 where
  pub small : (b : ℕ) → k ≤ b → b < n → get_or x b 0 < 33
  pub opened : (b : ℕ) → k ≤ b → b < n → is_set opens (get_or x b 0) ≡ true
  pub taken : (b : ℕ) → k ≤ b → b < n → goes_on spare (get_or x b 0) ≡ get_or x b 0
  pub spares : (f : ℕ) → is_set spare f ≡ true → (f < 33) × (is_set opens f ≡ true)
  pub null : is_set spare 0 ≡ true

-- s has the bidders from place k on, below n
pub record Remaining (s k n : ℕ) : Type 0 where
  pub only : (b : ℕ) → is_set s b ≡ true → (k ≤ b) × (b < n)
  pub all : (b : ℕ) → k ≤ b → b < n → is_set s b ≡ true

-- what a search starts from: `who` has the demands by place, and `later` the bidders after k
pub record Start (who x : List ℕ) (spare later k : ℕ) : Type 0 where
  pub w : List ℕ
  pub n : ℕ
  pub opens : ℕ
  pub most : n ≤ 64
  pub more : k < n
  pub asked : (b q : ℕ) → b < n → q < 33 → is_set (get_or who q 0) b ≡ is_set (get_or w b 0) q
  pub rest : Remaining later (k + 1) n
  pub seated : Seated x opens spare k n

-- the step from place p to q, at time t, which tells who moves: bidder number t % 128; or it is nobody, and null takes one more for a place
-- that may be left
unfoldable pub Step : List ℕ → List ℕ → ℕ → ℕ → ℕ → ℕ → ℕ → ℕ → Type 0
Step w x unpriced k n p q t =
    ((t % 128 ≡ 0) × (p ≡ 0) × (is_set unpriced q ≡ true))
    ⊎ ((b : ℕ) × (t % 128 ≡ suc b) × (k < b) × (b < n) × (get_or x b 0 ≡ p) × (is_set (get_or w b 0) q ≡ true))

-- the places seen before time `top`: each but a has a step to one that was seen before
pub record Tree (w x : List ℕ) (opens unpriced spare a k n : ℕ) (next entered : List ℕ) (seen top : ℕ) : Type 0 where
  pub next_size : length next ≡ 33
  pub entered_size : length entered ≡ 33
  pub root : is_set seen a ≡ true
  pub opened : (p : ℕ) → is_set seen p ≡ true → (p < 33) × (is_set opens p ≡ true)
  pub pooled : (p : ℕ) → is_set seen p ≡ true → is_set seen (goes_on spare p) ≡ true
  pub before : (p : ℕ) → is_set seen p ≡ true → get_or entered (goes_on spare p) 0 < top
  pub steps : (p : ℕ) → is_set seen p ≡ true → goes_on spare p ≡ p → (p ≡ a → ⊥)
      → (is_set seen (get_or next p 0) ≡ true) × (get_or entered (goes_on spare (get_or next p 0)) 0 < get_or entered p 0) × Step w x unpriced k n p (get_or next p 0) (get_or entered p 0)

-- the places of s are among those of t
abbrev pub Sub : ℕ → ℕ → Type 0
Sub s t = (p : ℕ) → is_set s p ≡ true → is_set t p ≡ true

-- the places from which a step leads into s are in t
pub record Expanded (w x : List ℕ) (unpriced spare k n s t : ℕ) : Type 0 where
  pub moves : (b q : ℕ) → k < b → b < n → is_set (get_or w b 0) q ≡ true → is_set s q ≡ true → is_set t (get_or x b 0) ≡ true
  pub frees : (q f : ℕ) → is_set unpriced q ≡ true → is_set s q ≡ true → is_set spare f ≡ true → is_set t f ≡ true

-- ---- what a turn adds

-- r has the places seen and more, whose step leads to q: what is noted of those seen stays, and `enters` tells which are new, and when
pub record Grown (q : ℕ) (enters : ℕ → ℕ → Type 0) (next entered : List ℕ) (seen : ℕ) (next' entered' : List ℕ) (r : ℕ) : Type 0 where
  pub next_size : length next' ≡ 33
  pub entered_size : length entered' ≡ 33
  pub sub : Sub seen r
  pub stays : (p : ℕ) → is_set seen p ≡ true → (get_or next' p 0 ≡ get_or next p 0) × (get_or entered' p 0 ≡ get_or entered p 0)
  pub new : (p : ℕ) → is_set r p ≡ true → (is_set seen p ≡ true) ⊎ ((get_or next' p 0 ≡ q) × enters p (get_or entered' p 0))

-- one of the movers has p, and its time is t
abbrev pub Moves : List ℕ → ℕ → ℕ → ℕ → ℕ → Type 0
Moves x movers turn p t = (b : ℕ) × (is_set movers b ≡ true) × (get_or x b 0 ≡ p) × (t ≡ 128 * turn + suc b)

-- null is seen if q may be left, and then all spare places are
pub record Pooled (q unpriced spare t : ℕ) (next entered : List ℕ) (seen : ℕ) (next' entered' : List ℕ) (r : ℕ) : Type 0 where
  pub with_null : ℕ
  pub grown : Grown q (λ p v. (p ≡ 0) × (v ≡ t) × (is_set unpriced q ≡ true)) next entered seen next' entered' with_null
  pub all : ((is_set unpriced q ≡ false) × (r ≡ with_null)) ⊎ ((is_set with_null 0 ≡ true) × (r ≡ bit_or with_null spare))
