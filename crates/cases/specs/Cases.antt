-- Document 01, "Lettings to try": K1 to K9, row by row as they stand there, but K5 and K7, which name no pan since document 02, #102; their floors are 0. After
-- them rows of our own with floors (#103); falling first (#104) of those where it differs. One table with one statement. Items are its pans, bidders its rakers, prices its rents, options its names. Assumes
-- nothing: these are definitions.
use Rattle.std.specs.Prelude.{ℕ, ◌+◌, ◌-◌, ◌^◌, ◌<◌, true, false, List, [], ◌∷◌, map, ◌≡◌, length, replicate}
use Rattle.rule.specs.Sheet.{Sheet, within_limits}
use Rattle.rule.specs.Demand.{Demand, demands}
use Rattle.rule.specs.Excess.{excess_demand, positive_excess_demand, excess_supply, above_floors}
use Rattle.rule.specs.Round.{closed, path}
use Rattle.rule.specs.Round.{falling as falling-phase}
use Rattle.rule.specs.Closing.{round_of, assignment_at, phase_after}
use Rattle.rule.specs.FallingFirst.{falling_path, falling_round_of, rising_after}

-- the set of the items of a list
abbrev pub set : List ℕ → ℕ
set [] = 0
set (i ∷ is) = 2 ^ (i - 1) + set is

-- what a row gives: items, bidders, starting prices, floors and each bidder's bids; or, of so many items, those of price above the floor and each bidder's demanded items
pub data Given : Type 0 where
  sheet_above : (items bidders : ℕ) (start floors : List ℕ) (bids : List (List ℕ)) → Given
  demanded : (items : ℕ) (above : List ℕ) (demands : List (List ℕ)) → Given

-- a sheet without floors: they are 0
abbrev sheet : (items bidders : ℕ) (start : List ℕ) (bids : List (List ℕ)) → Given
sheet m n start bs = sheet_above m n start (replicate m 0) bs

-- what a row finds: the rising set, S~ or the falling set at the given prices; the close, with rounds raised, rounds lowered, prices and options; and falling first
-- the rounds lowered, the turn, the rounds raised, prices and options
pub data Finding : Type 0 where
  rising isS~ falling : List ℕ → Finding
  closing : (raised lowered : ℕ) (prices options : List ℕ) → Finding
  falling_first : (lowered : ℕ) (turn : List ℕ) (raised : ℕ) (prices options : List ℕ) → Finding

abbrev items_of : Given → ℕ
items_of (sheet_above m n start floors bs) = m
items_of (demanded m above ds) = m

abbrev above_of : Given → ℕ
above_of (sheet_above m n start floors bs) = above_floors m floors start
above_of (demanded m above ds) = set above

abbrev only : List ℕ → Demand
only is = record { null = false; items = set is }

abbrev demands_of : Given → List Demand
demands_of (sheet_above m n start floors bs) = demands m bs start
demands_of (demanded m above ds) = map only ds

-- the sheet is within the limits and has so many bidders; its path closes after so many rounds raised and lowered, and not before, at these prices, and
-- names these options
pub record Closes (s : Sheet) (bidders ups downs : ℕ) (prices options : List ℕ) : Type 0 where
  pub limits : within_limits s ≡ true
  pub counted : length s.bids ≡ bidders
  pub at_close : path s (ups + downs) ≡ record { phase = phase_after downs; prices = prices; ups = ups; downs = downs }
  pub closes : round_of s (ups + downs) ≡ closed
  pub not_before : (k : ℕ) → k < ups + downs → round_of s k ≡ closed → ⊥
  pub assigned : assignment_at s prices ≡ options

-- falling first it comes to the turn after so many rounds lowered, and closes after so many raised, and not before
pub record FallingCloses (s : Sheet) (bidders downs : ℕ) (turn : List ℕ) (ups : ℕ) (prices options : List ℕ) : Type 0 where
  pub limits : within_limits s ≡ true
  pub counted : length s.bids ≡ bidders
  pub at_turn : falling_path s downs ≡ record { phase = falling-phase; prices = turn; ups = 0; downs = downs }
  pub at_close : falling_path s (downs + ups) ≡ record { phase = rising_after ups; prices = prices; ups = ups; downs = downs }
  pub closes : falling_round_of s (downs + ups) ≡ closed
  pub not_before : (k : ℕ) → k < downs + ups → falling_round_of s k ≡ closed → ⊥
  pub assigned : assignment_at s prices ≡ options

abbrev pub Found : Given → Finding → Type 0
Found g (rising is) = excess_demand (items_of g) (demands_of g) ≡ set is
Found g (isS~ is) = positive_excess_demand (items_of g) (above_of g) (demands_of g) ≡ set is
Found g (falling is) = excess_supply (items_of g) (above_of g) (demands_of g) ≡ set is
Found (sheet_above m n start floors bs) (closing ups downs prices options) =
    Closes (record { items = m; start = start; floors = floors; bids = bs }) n ups downs prices options
Found (demanded m above ds) (closing ups downs prices options) = ⊥
Found (sheet_above m n start floors bs) (falling_first downs turn ups prices options) =
    FallingCloses (record { items = m; start = start; floors = floors; bids = bs }) n downs turn ups prices options
Found (demanded m above ds) (falling_first downs turn ups prices options) = ⊥

pub record Row : Type 0 where
  pub given : Given
  pub finds : List Finding

abbrev pub Each : {A : Type 0} → (A → Type 0) → List A → Type 0
Each P [] = Unit {0}
Each P (x ∷ xs) = P x × Each P xs

-- the common statement: each row finds all that it says
abbrev pub Holds : Row → Type 0
Holds r = Each (Found r.given) r.finds

-- the bids of example 6
abbrev pub example6 : List (List ℕ)
example6 = (2 ∷ 6 ∷ []) ∷ (3 ∷ 7 ∷ []) ∷ (6 ∷ 7 ∷ []) ∷ []

abbrev pub table : List Row
table =
    -- K1
    record { given = sheet 2 3 (4 ∷ 4 ∷ []) example6; finds = closing 2 2 (2 ∷ 6 ∷ []) (0 ∷ 2 ∷ 1 ∷ []) ∷ falling_first 4 (0 ∷ 4 ∷ []) 2 (2 ∷ 6 ∷ []) (0 ∷ 2 ∷ 1 ∷ []) ∷ [] }
    -- K2
    ∷ record {
      given = demanded 4 (1 ∷ 4 ∷ []) ((1 ∷ []) ∷ (1 ∷ []) ∷ (1 ∷ []) ∷ (2 ∷ []) ∷ (2 ∷ []) ∷ (4 ∷ []) ∷ []);
      finds = rising (1 ∷ 2 ∷ []) ∷ isS~ (1 ∷ []) ∷ falling (4 ∷ []) ∷ [];
    }
    -- K3
    ∷ record { given = sheet 2 3 (0 ∷ 4 ∷ []) example6; finds = rising (1 ∷ 2 ∷ []) ∷ falling [] ∷ [] }
    -- K4
    ∷ record {
      given = sheet 2 2 (3 ∷ 3 ∷ []) ((5 ∷ 5 ∷ []) ∷ (5 ∷ 5 ∷ []) ∷ []);
      finds = falling (1 ∷ 2 ∷ []) ∷ closing 0 3 (0 ∷ 0 ∷ []) (1 ∷ 2 ∷ []) ∷ falling_first 3 (0 ∷ 0 ∷ []) 0 (0 ∷ 0 ∷ []) (1 ∷ 2 ∷ []) ∷ [];
    }
    -- K5
    ∷ record { given = sheet 1 1 (0 ∷ []) ((0 ∷ []) ∷ []); finds = closing 0 0 (0 ∷ []) (0 ∷ []) ∷ [] }
    -- K6
    ∷ record { given = sheet 1 2 (0 ∷ []) ((4095 ∷ []) ∷ (4095 ∷ []) ∷ []); finds = closing 4095 0 (4095 ∷ []) (1 ∷ 0 ∷ []) ∷ [] }
    -- K7
    ∷ record { given = sheet 1 1 (4095 ∷ []) ((0 ∷ []) ∷ []); finds = closing 0 4095 (0 ∷ []) (0 ∷ []) ∷ [] }
    -- K8
    ∷ record {
      given = sheet 3 3 (0 ∷ 0 ∷ 0 ∷ []) ((5 ∷ 5 ∷ 0 ∷ []) ∷ (0 ∷ 5 ∷ 5 ∷ []) ∷ (5 ∷ 0 ∷ 5 ∷ []) ∷ []);
      finds = closing 0 0 (0 ∷ 0 ∷ 0 ∷ []) (1 ∷ 2 ∷ 3 ∷ []) ∷ [];
    }
    -- K9
    ∷ record {
      given = sheet 2 3 (5 ∷ 5 ∷ []) ((9 ∷ 2 ∷ []) ∷ (9 ∷ 2 ∷ []) ∷ (9 ∷ 2 ∷ []) ∷ []);
      finds = closing 4 3 (9 ∷ 2 ∷ []) (1 ∷ 2 ∷ 0 ∷ []) ∷ falling_first 5 (5 ∷ 0 ∷ []) 4 (9 ∷ 2 ∷ []) (1 ∷ 2 ∷ 0 ∷ []) ∷ [];
    }
    -- a floor that nobody meets: the item stays unlet at its floor
    ∷ record { given = sheet_above 1 1 (7 ∷ []) (5 ∷ []) ((3 ∷ []) ∷ []); finds = closing 0 2 (5 ∷ []) (0 ∷ []) ∷ [] }
    -- two floors and one bidder: named item 1, which is better by bids less floors; without floors item 2
    ∷ record { given = sheet_above 2 1 (0 ∷ 5 ∷ []) (0 ∷ 5 ∷ []) ((3 ∷ 7 ∷ []) ∷ []); finds = falling [] ∷ closing 0 0 (0 ∷ 5 ∷ []) (1 ∷ []) ∷ [] }
    ∷ record { given = sheet 2 1 (0 ∷ 5 ∷ []) ((3 ∷ 7 ∷ []) ∷ []); finds = falling (2 ∷ []) ∷ closing 0 5 (0 ∷ 0 ∷ []) (2 ∷ []) ∷ [] }
    -- K9 with a floor for item 2 above all bids for it
    ∷ record {
      given = sheet_above 2 3 (5 ∷ 5 ∷ []) (0 ∷ 3 ∷ []) ((9 ∷ 2 ∷ []) ∷ (9 ∷ 2 ∷ []) ∷ (9 ∷ 2 ∷ []) ∷ []);
      finds = closing 4 2 (9 ∷ 3 ∷ []) (1 ∷ 0 ∷ 0 ∷ []) ∷ falling_first 2 (5 ∷ 3 ∷ []) 4 (9 ∷ 3 ∷ []) (1 ∷ 0 ∷ 0 ∷ []) ∷ [];
    }
    ∷ []
