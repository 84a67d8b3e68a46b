-- A sheet that explains every round of a list is never left: the machine's run has the list's answers. THEORY.md 4.6. Assumes nothing.
use Prim.Native.Nat.{ℕ, zero, suc, ◌<◌}
use mathlib.Core.Path.{◌≡◌, refl, sym, ap, ◌∙◌, subst}
use mathlib.Core.Bool.{Bool, true, false, ◌&&◌, not}
use mathlib.Core.List.{List, [], ◌∷◌, ◌++◌}
use native.Mathlib.Omega.{arith}
use native.Mathlib.Nat.{zero-add}
use lib.ListN.{length}
use lib.IntN.{ℤ}
use borrow.Author.Tests.{not-false}
use Rattle.sets.proofs.Counting.{and_both, all-make, any_none, not-both}
use Rattle.sets.proofs.Lists.{tabulate-at}
use Rattle.rule.specs.Sheet.{Sheet}
use Rattle.rule.specs.Demand.{Demand, nth}
use Rattle.rule.specs.Closing.{demands_at, round_of, Closing}
use Rattle.rule.proofs.AtPrices.{demands-same}
use Rattle.rule.proofs.Limits.{Limits}
use Rattle.rule.proofs.Refusal.{none as first_none}
use Rattle.lines.specs.Lines.{written_to}
use Rattle.reports.specs.Report.{same_demand}
use Rattle.reports.proofs.Same.{same_self}
use Rattle.live.specs.Auction.{reports_of, well_formed}
use Rattle.live.specs.Calls.{end_number, round_by, gives, refused, end_answer}
use Rattle.live.specs.declared.Auction.{Auction}
use Rattle.agreement.specs.Calls.{Call, reporting, ending, clearing, reading, Answer, ended, shown, Held, call, run}
use Rattle.agreement.specs.Machine.{Standing, none, stands, Machine, at, does_stand, said, said_all, is_missing, stands_as, demands_stand, Outcome, answers, leaves, tells, turned, machine_report, machine_clear, machine_read, machine_read_number, three_lines, machine_end_number, machine_end, machine, next, MachineRan, ran, left, behind, machine_run}
use Rattle.agreement.specs.Agreement.{stands_for, tables_of, held_for}
use Rattle.agreement.specs.Explained.{Played, played_by, played_in, played, ExplainsRounds}
use Rattle.agreement.proofs.Always.{Sound, keeps}
use Rattle.agreement.proofs.Follows.{Good, Follows}
use Rattle.agreement.proofs.Standing.{reports-is, prices-same}
use Rattle.agreement.proofs.Ending.{end-number}
use Rattle.agreement.proofs.Agreement.{follows}

-- ---- what is said of a list's rounds is said of a call's and of those after it

rounds-split : (s : Sheet) (xs ys : List Played) → ExplainsRounds s (xs ++ ys) → ExplainsRounds s xs × ExplainsRounds s ys
unfolding ExplainsRounds
rounds-split s [] ys h = (tt, h)
rounds-split s (q ∷ xs) ys (here, rest) = let w = rounds-split s xs ys rest in ((here, w.0), w.1)

-- of an end that gets no number: its reports are the sheet's demands
round-reports : (s : Sheet) (r : Auction) (ts : List ℤ) → end_number r ts ≡ 0 → ExplainsRounds s (played_by r (end_answer r ts)) → demands_at s r.prices ≡ reports_of r
unfolding end_answer
round-reports s r ts e h = go (end_number r ts) e h
  where
    go : (x : ℕ) → x ≡ 0 → ExplainsRounds s (played_by r (elim x [ zero ↦ gives (round_by r) | suc j ↦ refused (suc j) ])) → demands_at s r.prices ≡ reports_of r
    go zero q h = let w : (demands_at s r.prices ≡ reports_of r) × Unit {0} = unfold played_by ExplainsRounds in h in w.0
    go (suc j) q h = absurd (omega (arith, q))

-- ---- demands that stand

as-stands : (x : Standing) (e : Demand) → does_stand x ≡ true → said x ≡ e → stands_as x e ≡ true
unfolding does_stand said stands_as
as-stands none e h q = absurd (not-both false h refl)
as-stands (stands d) e h q = subst (λ (y : Demand). same_demand d y ≡ true) q (same_self d)

module _ (s : Sheet) (lim : Limits s) (t : Machine) where
  abbrev n : ℕ
  n = length s.bids

  pub all-stand : is_missing s t ≡ false → said_all s t ≡ demands_at s (at s t).prices → demands_stand s t ≡ true
  unfolding is_missing demands_stand said_all nth
  all-stand h q =
      all-make n (λ k. stands_as (t.standing (suc k)) (nth (demands_at s (at s t).prices) k)) (λ k l. as-stands (t.standing (suc k)) (nth (demands_at s (at s t).prices) k) (there k l) (same k l))
    where
      there : (k : ℕ) → k < n → does_stand (t.standing (suc k)) ≡ true
      there k l = not-false (does_stand (t.standing (suc k))) (any_none n (λ k. not (does_stand (t.standing (suc k)))) h k l)

      same : (k : ℕ) → k < n → said (t.standing (suc k)) ≡ nth (demands_at s (at s t).prices) k
      same k l =
          sym (tabulate-at n (λ k. said (t.standing (suc k))) 0 k (record { null = false; items = 0 }) l ∙ ap (λ (j : ℕ). said (t.standing (suc j))) (zero-add k))
          ∙ ap (λ (ds : List Demand). nth ds k) q

  -- what the record's reports say of the machine's
  pub machine-said : demands_at s (stands_for s t).prices ≡ reports_of (stands_for s t) → said_all s t ≡ demands_at s (at s t).prices
  machine-said h = sym (reports-is s t lim) ∙ sym h ∙ demands-same s.items (stands_for s t).prices (at s t).prices s.bids (prices-same s t lim.max_items)

-- neither 12 nor 14
unturned : (s : Sheet) (t : Machine) → machine_end_number s t ≡ 0 → (t.has_closed ≡ false) × (is_missing s t ≡ false)
unfolding machine_end_number
unturned s t q = let a = first_none 11 t.has_closed _ q in let b = first_none 13 (is_missing s t) _ a.1 in (a.0, b.0)

-- ---- only an end leaves

tells-stays : (x : ℕ) (t u : Machine) → tells x t u ≡ leaves → ⊥
unfolding tells
tells-stays zero t u e = absurd (let z : ◌≡◌ {A = ℕ} 0 1 = cc in omega arith)
tells-stays (suc j) t u e = absurd (let z : ◌≡◌ {A = ℕ} 0 1 = cc in omega arith)

module _ (s : Sheet) (lim : Limits s) (c : Closing s) where
  end_stays : (t : Machine) → Good s t → well_formed (stands_for s t) ≡ true → ExplainsRounds s (played_in (held_for s t) ending) → machine_end s t ≡ leaves → ⊥
  unfolding machine_end played_in held_for
  end_stays t g w h e = go (not t.has_closed && demands_stand s t) refl e
    where
      stop : (x : ℕ) → machine_end_number s t ≡ x → turned x t ≡ leaves → not t.has_closed && demands_stand s t ≡ false → ⊥
      stop zero q e b =
          let z : end_number (stands_for s t) (tables_of s t) ≡ 0 = end-number s lim c t g w ∙ q in
          let free = unturned s t q in
          let d : demands_stand s t ≡ true = all-stand s lim t free.1 (machine-said s lim t (round-reports s (stands_for s t) (tables_of s t) z h)) in
          not-both (not t.has_closed && demands_stand s t) (and_both (not t.has_closed) (demands_stand s t) (ap not free.0) d) b
      stop (suc j) q e b = unfold turned in absurd (let z : ◌≡◌ {A = ℕ} 0 1 = cc in omega arith)

      go : (b : Bool) → not t.has_closed && demands_stand s t ≡ b
          → elim b [
            | true ↦ answers (ended (gives (round_of s t.moves))) (next s t (round_of s t.moves))
            | false ↦ turned (machine_end_number s t) t
          ] ≡ leaves → ⊥
      go true b e = absurd (let z : ◌≡◌ {A = ℕ} 0 1 = cc in omega arith)
      go false b e = stop (machine_end_number s t) refl e b

  stays : (t : Machine) → Good s t → well_formed (stands_for s t) ≡ true → (x : Call) → ExplainsRounds s (played_in (held_for s t) x) → machine s t x ≡ leaves → ⊥
  unfolding machine machine_report machine_clear machine_read
  stays t g w (reporting b d) h e = tells-stays _ _ _ e
  stays t g w ending h e = end_stays t g w h e
  stays t g w clearing h e = tells-stays _ _ _ e
  stays t g w (reading out) h e = go (machine_read_number s t out) e
    where
      go : (x : ℕ) → elim x [ zero ↦ answers (shown 0 (written_to out (three_lines s))) t | suc j ↦ answers (shown (suc j) out) t ] ≡ leaves → ⊥
      go zero e = absurd (let z : ◌≡◌ {A = ℕ} 0 1 = cc in omega arith)
      go (suc j) e = absurd (let z : ◌≡◌ {A = ℕ} 0 1 = cc in omega arith)

  -- ---- the list

  -- the machine's run has these answers
  unfoldable pub Stays : List Answer → MachineRan → Type 0
  Stays xs o = (u : Machine) × (o ≡ ran xs u)

  grow : (xs : List Answer) (o : MachineRan) (y a : Answer) → y ≡ a → Stays xs o → Stays (y ∷ xs) (behind a o)
  unfolding behind Stays
  grow xs o y a e (u, q) = (u, ap (behind a) q ∙ ap (λ (z : Answer). ran (z ∷ xs) u) (sym e))

  pub never-left : (t : Machine) → Good s t → Sound (held_for s t) → (calls : List Call) → ExplainsRounds s (played (held_for s t) calls)
      → Stays (run (held_for s t) calls).answers (machine_run s t calls)
  unfolding run machine_run played Follows
  never-left t g w [] h = unfold Stays in (t, refl)
  never-left t g w (x ∷ xs) h =
      let both = rounds-split s (played_in (held_for s t) x) (played (call (held_for s t) x).next xs) h in
      let w' : well_formed (stands_for s t) ≡ true = unfold held_for in w.well-formed in
      go (λ u g w h. never-left u g w xs h) both.0 both.1 w' (machine s t x) refl (follows s lim c t g w' x)
    where
      go : ((u : Machine) → Good s u → Sound (held_for s u) → ExplainsRounds s (played (held_for s u) xs) → Stays (run (held_for s u) xs).answers (machine_run s u xs))
          → ExplainsRounds s (played_in (held_for s t) x) → ExplainsRounds s (played (call (held_for s t) x).next xs) → well_formed (stands_for s t) ≡ true
          → (o : Outcome) → machine s t x ≡ o → Follows s (call (held_for s t) x) o
          → Stays ((call (held_for s t) x).answer ∷ (run (call (held_for s t) x).next xs).answers) (elim o [ answers a u ↦ behind a (machine_run s u xs) | leaves ↦ left ])
      go rest here later w' leaves e f = absurd (stays t g w' x here e)
      go rest here later w' (answers a u) e f =
          let p : ((call (held_for s t) x).answer ≡ a) × ((call (held_for s t) x).next ≡ held_for s u) × Good s u = unfold Follows in f in
          subst (λ (r : Held). Stays ((call (held_for s t) x).answer ∷ (run r xs).answers) (behind a (machine_run s u xs))) (sym p.1)
          (grow (run (held_for s u) xs).answers (machine_run s u xs) (call (held_for s t) x).answer a p.0
          (rest u p.2 (subst Sound p.1 (keeps (held_for s t) w x)) (subst (λ (r : Held). ExplainsRounds s (played r xs)) p.1 later)))
