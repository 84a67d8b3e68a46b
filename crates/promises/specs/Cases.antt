-- Document 01, "Lettings to try": K1 to K9, as they are since document 02, #102, and falling first (#104); the others of its examples; and document 02's for 16, 17 and
-- 19 (#107). Assumes nothing: these are statements, which `proofs/Cases` proves.
use Rattle.std.specs.Prelude.{ℕ, ◌+◌, ◌-◌, ◌*◌, ◌^◌, ◌≤◌, ◌<◌, true, false, List, [], ◌∷◌, map, ◌≡◌, ℤ, length, replicate}
use Rattle.rule.specs.Sheet.{Sheet, within_limits}
use Rattle.rule.specs.Demand.{Demand}
use Rattle.rule.specs.Excess.{excess_demand, positive_excess_demand, excess_supply}
use Rattle.rule.specs.Round.{lowered, close}
use Rattle.rule.specs.Assignment.{total, floor_total}
use Rattle.rule.specs.Closing.{excess_demand_at, excess_supply_at, assignment_at}
use Rattle.rule.specs.FallingFirst.{falling_path, falling_close}
use Rattle.rule.specs.Refusal.{any_over}
use Rattle.reports.specs.Report.{saying}
use Rattle.differences.specs.Table.{opening}
use Rattle.differences.specs.Lent.{flat_all}
use Rattle.bids.specs.Refusal.{sealed_refusal}
use Rattle.sheet.specs.Close.{answer_of}
use Rattle.reasons.specs.Sheets.{reasons_in}
use Rattle.live.specs.Tables.{bad_tables}
use Rattle.live.specs.Calls.{gives, refused}
use Rattle.agreement.specs.Calls.{Call, reporting, ending, told, ended, run}
use Rattle.promises.specs.Text.{text}
use Rattle.promises.specs.Demand3Live.{after_opening}

-- the set of these pans
abbrev pub item_set : List ℕ → ℕ
item_set [] = 0
item_set (i ∷ is) = 2 ^ (i - 1) + item_set is

-- a sheet of these starting rents, floors and bids, a row for each raker
abbrev pub sheet : (start floors : List ℕ) (bids : List (List ℕ)) → Sheet
sheet start floors bids = record { items = length start; start = start; floors = floors; bids = bids }

-- without floors, which are then 0
abbrev pub plain : (start : List ℕ) (bids : List (List ℕ)) → Sheet
plain start bids = sheet start (replicate (length start) 0) bids

-- the sheet is within the limits, and closes after u rounds raised and d lowered at rents p with names xs
pub record Closes (s : Sheet) (u d : ℕ) (p xs : List ℕ) : Type 0 where
  pub within : within_limits s ≡ true
  pub raised : (close s).ups ≡ u
  pub lowered : (close s).downs ≡ d
  pub prices : (close s).prices ≡ p
  pub names : assignment_at s (close s).prices ≡ xs

-- falling first it turns at rents t after d rounds lowered, and closes after u raised at rents p with names xs
pub record ClosesFalling (s : Sheet) (d : ℕ) (t : List ℕ) (u : ℕ) (p xs : List ℕ) : Type 0 where
  pub lowered : (falling_close s).downs ≡ d
  pub turn : (falling_path s d).prices ≡ t
  pub raised : (falling_close s).ups ≡ u
  pub prices : (falling_close s).prices ≡ p
  pub names : assignment_at s (falling_close s).prices ≡ xs

-- the bids of example 6
abbrev pub six : List (List ℕ)
six = (2 ∷ 6 ∷ []) ∷ (3 ∷ 7 ∷ []) ∷ (6 ∷ 7 ∷ []) ∷ []

-- the demands of K2: {1}, {1}, {1}, {2}, {2}, {4}
abbrev pub two : List Demand
two = map (λ i. record { null = false; items = item_set (i ∷ []) }) (1 ∷ 1 ∷ 1 ∷ 2 ∷ 2 ∷ 4 ∷ [])

-- (9, 2) thrice, the bids of K9
abbrev pub nine : List (List ℕ)
nine = (9 ∷ 2 ∷ []) ∷ (9 ∷ 2 ∷ []) ∷ (9 ∷ 2 ∷ []) ∷ []

pub record Tried : Type 0 where
  pub K1 : Closes (plain (4 ∷ 4 ∷ []) six) 2 2 (2 ∷ 6 ∷ []) (0 ∷ 2 ∷ 1 ∷ [])
  -- #104: "From (4,4) example 6 takes 4 falls and 2 rises"
  pub K1-falling-first : ClosesFalling (plain (4 ∷ 4 ∷ []) six) 4 (0 ∷ 4 ∷ []) 2 (2 ∷ 6 ∷ []) (0 ∷ 2 ∷ 1 ∷ [])
  -- "rents above 0 at pans 1 and 4 of four": "rising {1,2}, S~ {1}, falling {4}"
  pub K2-rising : excess_demand 4 two ≡ item_set (1 ∷ 2 ∷ [])
  pub K2-tilde : positive_excess_demand 4 (item_set (1 ∷ 4 ∷ [])) two ≡ item_set (1 ∷ [])
  pub K2-falling : excess_supply 4 (item_set (1 ∷ 4 ∷ [])) two ≡ item_set (4 ∷ [])
  pub K3-rising : excess_demand_at (plain (0 ∷ 4 ∷ []) six) (0 ∷ 4 ∷ []) ≡ item_set (1 ∷ 2 ∷ [])
  pub K3-falling : excess_supply_at (plain (0 ∷ 4 ∷ []) six) (0 ∷ 4 ∷ []) ≡ item_set []
  pub K4-falling : excess_supply_at (plain (3 ∷ 3 ∷ []) ((5 ∷ 5 ∷ []) ∷ (5 ∷ 5 ∷ []) ∷ [])) (3 ∷ 3 ∷ []) ≡ item_set (1 ∷ 2 ∷ [])
  pub K4 : Closes (plain (3 ∷ 3 ∷ []) ((5 ∷ 5 ∷ []) ∷ (5 ∷ 5 ∷ []) ∷ [])) 0 3 (0 ∷ 0 ∷ []) (1 ∷ 2 ∷ [])
  pub K4-falling-first : ClosesFalling (plain (3 ∷ 3 ∷ []) ((5 ∷ 5 ∷ []) ∷ (5 ∷ 5 ∷ []) ∷ [])) 3 (0 ∷ 0 ∷ []) 0 (0 ∷ 0 ∷ []) (1 ∷ 2 ∷ [])
  -- #102: "K5 and K7 then name no pan"
  pub K5 : Closes (plain (0 ∷ []) ((0 ∷ []) ∷ [])) 0 0 (0 ∷ []) (0 ∷ [])
  pub K6 : Closes (plain (0 ∷ []) ((4095 ∷ []) ∷ (4095 ∷ []) ∷ [])) 4095 0 (4095 ∷ []) (1 ∷ 0 ∷ [])
  pub K7 : Closes (plain (4095 ∷ []) ((0 ∷ []) ∷ [])) 0 4095 (0 ∷ []) (0 ∷ [])
  pub K8 : Closes (plain (0 ∷ 0 ∷ 0 ∷ []) ((5 ∷ 5 ∷ 0 ∷ []) ∷ (0 ∷ 5 ∷ 5 ∷ []) ∷ (5 ∷ 0 ∷ 5 ∷ []) ∷ [])) 0 0 (0 ∷ 0 ∷ 0 ∷ []) (1 ∷ 2 ∷ 3 ∷ [])
  pub K9 : Closes (plain (5 ∷ 5 ∷ []) nine) 4 3 (9 ∷ 2 ∷ []) (1 ∷ 2 ∷ 0 ∷ [])
  pub K9-falling-first : ClosesFalling (plain (5 ∷ 5 ∷ []) nine) 5 (5 ∷ 0 ∷ []) 4 (9 ∷ 2 ∷ []) (1 ∷ 2 ∷ 0 ∷ [])
  -- #103, of our own: a floor that nobody meets; floors that change the names, by bids less floors; K9 with a floor above all bids for its pan
  pub unmet : Closes (sheet (7 ∷ []) (5 ∷ []) ((3 ∷ []) ∷ [])) 0 2 (5 ∷ []) (0 ∷ [])
  pub floored : Closes (sheet (0 ∷ 5 ∷ []) (0 ∷ 5 ∷ []) ((3 ∷ 7 ∷ []) ∷ [])) 0 0 (0 ∷ 5 ∷ []) (1 ∷ [])
  pub unfloored : Closes (plain (0 ∷ 5 ∷ []) ((3 ∷ 7 ∷ []) ∷ [])) 0 5 (0 ∷ 0 ∷ []) (2 ∷ [])
  pub more_of_bids : total ((3 ∷ 7 ∷ []) ∷ []) (1 ∷ []) < total ((3 ∷ 7 ∷ []) ∷ []) (2 ∷ [])
  pub less_of_floors : total ((3 ∷ 7 ∷ []) ∷ []) (2 ∷ []) + floor_total (0 ∷ 5 ∷ []) (1 ∷ []) < total ((3 ∷ 7 ∷ []) ∷ []) (1 ∷ []) + floor_total (0 ∷ 5 ∷ []) (2 ∷ [])
  pub K9-floored : Closes (sheet (5 ∷ 5 ∷ []) (0 ∷ 3 ∷ []) nine) 4 2 (9 ∷ 3 ∷ []) (1 ∷ 0 ∷ 0 ∷ [])
  pub K9-floored-falling-first : ClosesFalling (sheet (5 ∷ 5 ∷ []) (0 ∷ 3 ∷ []) nine) 2 (5 ∷ 3 ∷ []) 4 (9 ∷ 3 ∷ []) (1 ∷ 0 ∷ 0 ∷ [])

-- the bid sheet of example 6
abbrev pub sixth : List ℕ
sixth = text "020300040004\n00020006\n00030007\n00060007\n"

-- its closing sheet, with the fourth line of #106, "example 6 ending in 000000010004", and its sheet of reasons (#101)
abbrev pub sixth_closed : List ℕ
sixth_closed = text "000002000002\n00020006\n000201\n000000010004\n"

abbrev pub sixth_reasons : List ℕ
sixth_reasons = text "000101000000020000000000000007\n000201000000020000000000000003\n000302000000010000000000000004\n000402000000010000000000000004\n"

-- "Example 6 goes in and comes out as"
pub record Example6 : Type 0 where
  pub closing : (room : ℕ) → 42 ≤ room → answer_of sixth room ≡ sixth_closed
  pub reasons : reasons_in sixth ≡ sixth_reasons

-- "Also: 32 pans and 64 rakers accepted, 33 gives 1, 65 gives 2; a start and a bid of 4,096 together give 4"
pub record Also : Type 0 where
  pub most : (start bids : List ℕ) → length start ≡ 32 → length bids ≡ 64 * 32 → any_over start ≡ false → any_over bids ≡ false → sealed_refusal 32 64 start bids ≡ 0
  pub thirty_three : (n : ℕ) (start bids : List ℕ) → sealed_refusal 33 n start bids ≡ 1
  pub sixty_five : (start bids : List ℕ) → sealed_refusal 32 65 start bids ≡ 2
  pub both_above : sealed_refusal 1 1 (4096 ∷ []) (4096 ∷ []) ≡ 4

-- one pan at 5 and two rakers: both report no pan, the rent falls to 4, and raker 1 reports the pan alone
abbrev pub fallen : List Call
fallen = reporting 1 (saying true 0) ∷ reporting 2 (saying true 0) ∷ ending ∷ reporting 1 (saying false 1) ∷ []

pub record Reports : Type 0 where
  -- #107: "In document 01's example for 16 the first report of the pan alone then gives 19"
  pub sixteen_nineteen : (lent : List ℤ) → bad_tables 2 lent ≡ false
      → (run (after_opening 1 2 (5 ∷ []) (0 ∷ []) lent) fallen).answers ≡ told 0 ∷ told 0 ∷ ended (gives (lowered (item_set (1 ∷ [])))) ∷ told 19 ∷ []
  -- "and 16 still comes where tables filled anew are lent from there on"
  pub sixteen_anew : (lent : List ℤ) → bad_tables 2 lent ≡ false
      → (run (record { auction = (run (after_opening 1 2 (5 ∷ []) (0 ∷ []) lent) fallen).last.auction; tables = flat_all 2 λ k. opening 1 })
      (reporting 1 (saying false 1) ∷ reporting 2 (saying false 1) ∷ ending ∷ [])).answers
      ≡ told 0 ∷ told 0 ∷ ended (refused 16) ∷ []
  -- "in its example for 17 the first report gives 19"
  pub seventeen_nineteen : (lent : List ℤ) → bad_tables 2 lent ≡ false
      → (run (after_opening 1 2 (4095 ∷ []) (0 ∷ []) lent) (reporting 1 (saying false 1) ∷ [])).answers ≡ told 19 ∷ []

pub record Cases : Type 0 where
  pub tried : Tried
  pub example6 : Example6
  pub also : Also
  pub reports : Reports
