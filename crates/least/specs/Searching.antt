-- The search over the items by distance: by how much prices must move before an item is reached. It starts with one line of bids, and goes on with those of
-- the holders of the items that it enters. Assumes nothing: these are definitions.
use Rattle.std.specs.Prelude.{ℕ, zero, suc, ◌+◌, ◌-◌, ◌≤◌, ◌<◌, ◌≡◌, ◌⊎◌}

-- the bids of who reaches further from y: the first line from 0, where the search starts, and the line of its holder from item y
unfoldable pub line_at : (ℕ → ℕ → ℕ) → (own first : ℕ → ℕ) → ℕ → ℕ → ℕ
line_at bid own first zero x = first x
line_at bid own first (suc y) x = bid (own (suc y) - 1) x

-- who that is, where the search starts with bidder k
unfoldable pub who : ℕ → (own : ℕ → ℕ) → ℕ → ℕ
who k own zero = k
who k own (suc y) = own (suc y) - 1

-- their reach, which is the distance of what is worth nothing to them: item x, which is worth bid - price, is as much nearer
unfoldable pub reach_of : ℕ → (line : ℕ → ℕ → ℕ) → (p dist : ℕ → ℕ) → ℕ → ℕ
reach_of top line p dist zero = top
reach_of top line p dist (suc y) = line (suc y) (suc y) + dist (suc y) - p (suc y)

-- from where the search goes on: the start, and the items entered. mask has the number of the turn at which an item was entered, or 0
abbrev pub Source : (mask : ℕ → ℕ) → ℕ → Type 0
Source mask y = (y ≡ 0) ⊎ (0 < mask y)

-- the items 1 to m
abbrev pub Item : ℕ → ℕ → Type 0
Item m x = (0 < x) × (x < suc m)

-- the search among the items that `In` names: their distances, and from where each was reached at its distance
pub record Search (m : ℕ) (In : ℕ → Type 0) (top : ℕ) (line : ℕ → ℕ → ℕ) (p dist mask via : ℕ → ℕ) : Type 0 where
  pub null : mask 0 ≡ 0
  pub among : (y : ℕ) → y < suc m → 0 < mask y → In y
  -- what is entered is nearest
  pub near : (x y : ℕ) → In x → y < suc m → mask x ≡ 0 → 0 < mask y → dist y ≤ dist x
  pub reach : (x y : ℕ) → In x → y < suc m → Source mask y → dist x + line y x ≤ reach_of top line p dist y + p x
  pub source : (x : ℕ) → In x → (via x < suc m) × Source mask (via x)
  pub exact : (x : ℕ) → In x → dist x + line (via x) x ≡ reach_of top line p dist (via x) + p x
  pub order : (x : ℕ) → In x → 0 < mask x → mask (via x) < mask x

-- an item after somebody with reach u was entered at j, who bids so much for it: reached from j, or left as it was
abbrev pub Relaxed : (u j bid price dist via dist' via' : ℕ) → Type 0
Relaxed u j bid price dist via dist' via' =
    ((u + price - bid < dist) × (dist' ≡ u + price - bid) × (via' ≡ j)) ⊎ ((dist ≤ u + price - bid) × (dist' ≡ dist) × (via' ≡ via))
