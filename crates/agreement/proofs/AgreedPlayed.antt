-- Closed cases for the rounds of a list and for what explains them: the list of `Agreed` on one item at 1 plays two rounds, of which the second is the close; and
-- small cases in which bids or a sheet do not explain. A wrong definition makes one of them false. Assumes nothing.
use Prim.Native.Nat.{ℕ}
use mathlib.Core.Path.{◌≡◌, refl, ap, ap₂, ◌∙◌, subst}
use mathlib.Core.Bool.{true, false}
use mathlib.Core.List.{List, [], ◌∷◌, ◌++◌}
use native.Mathlib.Omega.{arith}
use lib.IntN.{ℤ}
use Rattle.sets.specs.Lists.{places}
use Rattle.rule.specs.Sheet.{Sheet}
use Rattle.rule.specs.Demand.{Demand, nth}
use Rattle.rule.specs.Closing.{Closing}
use Rattle.rule.proofs.Limits.{Limits, limits}
use Rattle.rule.proofs.Closing.{closing}
use Rattle.reports.specs.Report.{saying}
use Rattle.differences.specs.Allowed.{explains}
use Rattle.live.specs.Tables.{bad_tables}
use Rattle.live.specs.Calls.{refused}
use Rattle.live.specs.declared.Auction.{Auction}
use Rattle.live.specs.declared.Phase.TheVariants.{Rising}
use Rattle.agreement.specs.Calls.{Call, reporting, ending, clearing, reading, Answer, told, ended, shown, Held, Answered, call}
use Rattle.agreement.specs.Machine.{Machine, begin, answers}
use Rattle.agreement.specs.Agreement.{opened_with, stands_for, held_for}
use Rattle.agreement.specs.Explained.{Played, has_moved, played_by, played_in, played, explains_moved, ExplainsRounds, ExplainsStanding, never_at_end}
use Rattle.agreement.proofs.Always.{Sound, keeps}
use Rattle.agreement.proofs.Follows.{Good, Follows}
use Rattle.agreement.proofs.Agreement.{good-begin, follows, opened-for, opens-sound}
use Rattle.agreement.proofs.Agreed.{computing, Answers, calls_of, Goes, done, goes, holding, one, one-within, one_list, last_one, closes}
use Rattle.agreement.proofs.AgreedLive.{reading-too}

-- ---- the rounds along a list on which the machine stays

-- what an answer to a call on this record has played
played_as : Auction → Call → Answer → List Played
played_as r ending (ended e) = played_by r e
played_as r ending (told n) = []
played_as r ending (shown n out) = []
played_as r (reporting b d) a = []
played_as r clearing a = []
played_as r (reading out) a = []

along : {s : Sheet} {t v : Machine} {xs : Answers} → Goes s t xs v → List Played
along done = []
along {s} (goes {t = t} {c = c} {a = a} e h) = played_as (stands_for s t) c a ++ along h

same-played : (s : Sheet) (t : Machine) (c : Call) (a : Answer) → (call (held_for s t) c).answer ≡ a → played_in (held_for s t) c ≡ played_as (stands_for s t) c a
unfolding played_in played_as call held_for
same-played s t (reporting b d) a e = refl
same-played s t clearing a e = refl
same-played s t (reading out) a e = refl
same-played s t ending a e = ap (played_as (stands_for s t) ending) e

parts : {s : Sheet} (a : Answered) (b : Answer) (u : Machine) → Follows s a (answers b u) → (a.answer ≡ b) × (a.next ≡ held_for s u) × Good s u
unfolding Follows
parts a b u h = h

module _ (s : Sheet) (lim : Limits s) (c : Closing s) where
  played-along : (t : Machine) → Good s t → Sound (held_for s t) → (xs : Answers) (v : Machine) (h : Goes s t xs v) → played (held_for s t) (calls_of xs) ≡ along h
  unfolding played along
  played-along t g w xs v done = refl
  played-along t g w xs v (goes {u = u} {c = x} {a = a} {xs = ys} e h) =
      let f : Follows s (call (held_for s t) x) (answers a u) = subst (Follows s (call (held_for s t) x)) e (follows s lim c t g (unfold held_for in w.well-formed) x) in
      let p = parts (call (held_for s t) x) a u f in
      ap₂ (λ (x y : List Played). x ++ y) (same-played s t x a p.0)
      (ap (λ (k : Held). played k (calls_of ys)) p.1 ∙ played-along u p.2 (subst Sound p.1 (keeps (held_for s t) w x)) ys v h)

-- the round that lowered, and the close
abbrev pub lowered_round : Played
lowered_round = record { prices = places 32 (1 ∷ []); reports = saying true 1 ∷ []; moved = true }

abbrev pub closing_round : Played
closing_round = record { prices = places 32 (0 ∷ []); reports = saying false 1 ∷ []; moved = false }

along_one : along closes.answered ≡ lowered_round ∷ closing_round ∷ []
unfolding computing reading-too along played_as played_by has_moved closes
along_one = refl

pub played-one : (lent : List ℤ) → bad_tables 1 lent ≡ false → played (opened_with 1 1 (1 ∷ []) (0 ∷ []) lent) (calls_of one_list) ≡ lowered_round ∷ closing_round ∷ []
played-one lent fit =
    let lim = limits one one-within in
    ap (λ (h : Held). played h (calls_of one_list)) (opened-for one lim closes.few lent fit)
    ∙ played-along one lim (closing one one-within) (begin one) (good-begin one lim) (subst Sound (opened-for one lim closes.few lent fit) (opens-sound one lim closes.few lent fit)) one_list last_one closes.answered
    ∙ along_one

-- ---- bids that explain: the bid of 1 explains the round that lowered, and a bid of 2 does not; of the close nothing is asked

pub explains-moved : explains_moved 1 0 (lowered_round ∷ closing_round ∷ []) (1 ∷ []) ≡ true
unfolding computing explains_moved explains
explains-moved = refl

pub explains-not : explains_moved 1 0 (lowered_round ∷ []) (2 ∷ []) ≡ false
unfolding computing explains_moved explains
explains-not = refl

pub close-unasked : explains_moved 1 0 (closing_round ∷ []) (0 ∷ []) ≡ true
unfolding computing explains_moved explains
close-unasked = refl

-- ---- a sheet that explains: of every round, the close too, and of what stands

pub rounds-one : ExplainsRounds one (lowered_round ∷ closing_round ∷ [])
unfolding computing ExplainsRounds
rounds-one = (refl, (refl, tt))

abbrev zero_sheet : Sheet
zero_sheet = record { items = 1; start = 1 ∷ []; floors = 0 ∷ []; bids = (0 ∷ []) ∷ [] }

pub close-asked : ExplainsRounds zero_sheet (closing_round ∷ []) → ⊥
unfolding computing ExplainsRounds
close-asked (e, rest) = let z : ◌≡◌ {A = ℕ} 0 1 = ap (λ (ds : List Demand). (nth ds 0).items) e in omega arith

-- null alone stands at 1, which is the demand of a bid of 0 and not of a bid of 1
abbrev null_stands : Auction
null_stands = holding 1 1 (1 ∷ []) [] [] 1 1 Rising 0 0

pub standing-asked : ExplainsStanding one null_stands → ⊥
unfolding computing reading-too ExplainsStanding
standing-asked h = let z : ◌≡◌ {A = ℕ} 1 0 = ap (λ (d : Demand). d.items) (h 0 (omega arith) refl) in omega arith

-- ---- 19 at an end, and elsewhere

pub at-end : never_at_end 19 (told 19 ∷ ended (refused 14) ∷ ended (refused 19) ∷ []) ≡ false
unfolding never_at_end
at-end = refl

pub not-at-end : never_at_end 19 (told 19 ∷ ended (refused 14) ∷ shown 19 [] ∷ []) ≡ true
unfolding never_at_end
not-at-end = refl
