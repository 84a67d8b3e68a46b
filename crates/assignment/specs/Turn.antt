-- A bidder's turn: what it starts from, and what the moves along a way start from. Assumes nothing: these are definitions.
use Rattle.std.specs.Prelude.{ℕ, suc, ◌+◌, ◌≤◌, ◌<◌, ◌≡◌, Bool, true, ◌&&◌, ◌⊎◌, List, [], length, get_or}
use Rattle.sets.specs.Bit.{is_set, has, set_of, lowest}
use Rattle.rule.specs.Demand.{wants}
use Rattle.assignment.specs.Choice.{completed, Begins, Completes}
use Rattle.assignment.specs.Search.{Open, Sorted, Seated, Remaining, Tree}

-- the bidder at place c has v: an item of the first m that it holds, or null
unfoldable pub Seat : ℕ → List ℕ → ℕ → ℕ → Type 0
Seat m holder c v = ((k : ℕ) × (k < m) × (v ≡ suc k) × (get_or holder k 0 ≡ c + 1)) ⊎ ((v ≡ 0) × ((k : ℕ) → k < m → get_or holder k 0 ≡ c + 1 → ⊥))

-- a match that is a complete assignment is found, or there is none
pub record Complete (n : ℕ) (sets : List ℕ) (nulls above : ℕ) (found : Bool) (holder : List ℕ) : Type 0 where
  pub is : found ≡ completed n sets nulls above []
  pub small : found ≡ true → (k : ℕ) → k < 32 → get_or holder k 0 ≤ 64
  pub completes : found ≡ true → (x : List ℕ) → ((c : ℕ) → c < 64 → Seat 32 holder c (get_or x c 0)) → Completes n sets nulls above [] x

-- s has the places that the bidders from k on, below n, have
pub record Held (x : List ℕ) (k n s : ℕ) : Type 0 where
  pub only : (p : ℕ) → is_set s p ≡ true → (b : ℕ) × (k ≤ b) × (b < n) × (get_or x b 0 ≡ p)
  pub all : (b : ℕ) → k ≤ b → b < n → is_set s (get_or x b 0) ≡ true

-- r has the places that are open after ys
pub record Opens (ys : List ℕ) (r : ℕ) : Type 0 where
  pub only : (p : ℕ) → is_set r p ≡ true → (p < 33) × Open ys p
  pub all : (p : ℕ) → p < 33 → Open ys p → is_set r p ≡ true

-- i is the lowest item that s and t have both, and null if there is none
pub record FirstOf (s t i : ℕ) : Type 0 where
  pub both : ℕ
  pub both_is : both ≡ set_of 64 (λ j. has s j && has t j)
  pub lowest_is : i ≡ lowest 63 (is_set both)

-- the bidder at place b demands p
abbrev pub asks : List ℕ → ℕ → ℕ → ℕ → Bool
asks sets nulls b p = wants (record { null = has nulls (b + 1); items = get_or sets b 0 }) p

-- the demands by bidder and by place
pub record Demanded (n : ℕ) (sets : List ℕ) (nulls : ℕ) (w who : List ℕ) : Type 0 where
  pub by_bidder : (b p : ℕ) → b < 64 → is_set (get_or w b 0) p ≡ asks sets nulls b p
  pub by_place : (b p : ℕ) → b < n → p < 33 → is_set (get_or who p 0) b ≡ asks sets nulls b p

-- what a bidder's turn starts from: x completes the options ys of the bidders before, and `later` has those after
pub record Turn (w who x : List ℕ) (above opens later k n : ℕ) : Type 0 where
  pub sets : List ℕ
  pub nulls : ℕ
  pub ys : List ℕ
  pub count : length ys ≡ k
  pub more : k < n
  pub most : n ≤ 64
  pub begun : Begins n sets nulls above ys
  pub open_places : Opens ys opens
  pub size : length x ≡ 64
  pub demands : Demanded n sets nulls w who
  pub rest : Remaining later (k + 1) n
  pub completes : Completes n sets nulls above ys x

-- and what the moves start from: there is a way from i, which bidder k demands, to what it has
pub record Way (x next entered : List ℕ) (spare a i k : ℕ) : Type 0 where
  pub w : List ℕ
  pub who : List ℕ
  pub above : ℕ
  pub opens : ℕ
  pub later : ℕ
  pub n : ℕ
  pub turn : Turn w who x above opens later k n
  pub unpriced : ℕ
  pub seen : ℕ
  pub sorted : Sorted 32 n (has above) turn.ys (λ b. get_or x b 0) (is_set opens) (is_set unpriced) (is_set spare)
  pub seated : Seated x opens spare k n
  pub had : get_or x k 0 ≡ a
  pub tree : Tree w x opens unpriced spare a k n next entered seen 65536
  pub reached : is_set seen i ≡ true
  pub wanted : is_set (get_or w k 0) i ≡ true
