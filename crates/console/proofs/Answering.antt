-- An answer by its order, with room for it. Assumes nothing.
use Prim.Native.Nat.{ℕ, zero, suc, ◌*◌, ◌≤◌, ◌<◌, min}
use mathlib.Core.Path.{◌≡◌, refl, sym, ap, ap₂, ◌∙◌, subst}
use mathlib.Core.Bool.{Bool, true, false, ◌||◌, not, cond, true≢false}
use mathlib.Core.List.{List, [], ◌++◌}
use Rattle.std.specs.Prelude.{Option, None, Some, unwrap_or, is_some}
use native.Mathlib.Omega.{arith}
use lib.Dec.{leb, ltb, eqb}
use lib.ListN.{length, take, drop, replicate, length-append}
use lib.IntN.{ℤ}
use lib.Seq.{length-sets, length-take-le}
use Rattle.std.proofs.Common.{append_assoc}
use Rattle.std.proofs.lemmas.List.{drop-append-le, take-append-drop}
use borrow.Author.Tests.{lt-ltb, le-ltb, eq-eqb, ne_eqb, not-false}
use Rattle.rule.specs.Round.{Round, raised, lowered, closed}
use Rattle.rule.proofs.Refusal.{none as first_none}
use Rattle.lines.specs.Lines.{written_to}
use Rattle.digits.specs.Reading.{◌>>=◌, number_at}
use Rattle.lines.proofs.Stores.{sets-front}
use Rattle.reports.specs.Report.{saying}
use Rattle.live.specs.Auction.{well_formed}
use Rattle.live.proofs.Opening.{by-number, accepts, zero-floors}
use Rattle.live.proofs.Opening.{opens as opens-within}
use Rattle.live.specs.Calls.{open_number, open_above_number, opened, unopened, open_auction, open_above, filled_by, report, clear, end_number, round_by, settled, Ending, gives, refused, end_answer, end_next, end_tables}
use Rattle.live.specs.declared.Auction.{Auction}
use Rattle.live.specs.declared.Reply.{Reply}
use Rattle.live.proofs.Formed.{formed}
use Rattle.console.specs.Orders.{starts, alone, amounts_at, amounts_of, starts_of, floors_of, opening, reporting, order_of}
use Rattle.console.specs.Answers.{Said, Told, beside, opens, replies, ends, reads, lent, keeps, fills, told_by, told}
use Rattle.console.specs.Steps.{longest_answer, held_numbers, Puts, told_to, Answers}
use Rattle.console.specs.declared.Answered.{Answered}
use Rattle.console.specs.declared.Order.{Order}
use Rattle.console.specs.declared.Order.TheVariants.{Open, OpenAbove, Report, End, Clear, Read, Unknown}
use Rattle.console.proofs.Amounts.{not-read}
use Rattle.console.proofs.Enough.{split-starts, split_rest}

-- ---- room

or-true : (a : Bool) → (a || true) ≡ true
or-true true = refl
or-true false = refl

module _ (r : Auction) (ts : List ℤ) (line out : List ℕ) where
  by-test : (b : Bool) → (not (eqb (length ts) held_numbers) || ltb (length out) longest_answer) ≡ b
      → told_to r ts line (length out) ≡ cond b (record { bytes = []; next = r; tables = ts }) (told r ts line)
  unfolding told_to
  by-test b e = ap (λ (x : Bool). cond x (record { bytes = []; next = r; tables = ts }) (told r ts line)) e

  nothing : (not (eqb (length ts) held_numbers) || ltb (length out) longest_answer) ≡ true → Answers (told_to r ts line (length out)) out out ts (record { length = 0; next = r })
  nothing e =
      subst (λ (t : Told). Answers t out out ts (record { length = 0; next = r })) (sym (by-test true e))
      (record { next = refl; counted = refl; written = unfold written_to in refl; tables = refl; within = omega arith; part = refl })

  pub other-tables : (length ts ≡ held_numbers → ⊥) → Answers (told_to r ts line (length out)) out out ts (record { length = 0; next = r })
  other-tables ne = nothing (ap (λ (b : Bool). not b || ltb (length out) longest_answer) (ne_eqb (length ts) held_numbers ne))

  pub no_room : length out < longest_answer → Answers (told_to r ts line (length out)) out out ts (record { length = 0; next = r })
  no_room l = nothing (ap (λ (b : Bool). not (eqb (length ts) held_numbers) || b) (lt-ltb (length out) longest_answer l) ∙ or-true (not (eqb (length ts) held_numbers)))

  -- with the tables of the most bidders and room for the longest answer the line is answered
  pub with-room : (after : List ℕ) (left : List ℤ) (a : Answered) → length ts ≡ held_numbers → longest_answer ≤ length out → Answers (told r ts line) out after left a
      → Answers (told_to r ts line (length out)) out after left a
  with-room after left a long l =
      subst (λ (t : Told). Answers t out after left a)
      (sym (by-test false (ap₂ (λ (x y : Bool). not x || y) (eq-eqb (length ts) held_numbers long) (le-ltb (length out) longest_answer l))))

  -- the front of the lent bytes was answered to, and the others were left
  pub in-front : (k : ℕ) (front after : List ℕ) (left : List ℤ) (t : Told) (a : Answered) → front ≡ take k out → k ≤ length out → length after ≡ k
      → Answers t front after left a → Answers t out (after ++ drop k out) left a
  unfolding written_to
  in-front k front after left t a e l la p =
      record {
        next = p.next;
        counted = p.counted;
        written =
            ap (λ (xs : List ℕ). xs ++ drop k out) (p.written ∙ ap (λ (xs : List ℕ). t.bytes ++ drop (length t.bytes) xs) e)
            ∙ append_assoc t.bytes (drop (length t.bytes) (take k out)) (drop k out)
            ∙ ap (λ (xs : List ℕ). t.bytes ++ xs) (sym (drop-append-le (length t.bytes) (take k out) (drop k out) short) ∙ ap (drop (length t.bytes)) (take-append-drop k out));
        tables = p.tables;
        within = inside;
        part = sym (length-take-le a.length (after ++ drop k out) inside);
      }
    where
      short : length t.bytes ≤ length (take k out)
      short = omega (arith, p.counted, p.within, la, length-take-le k out l)

      inside : a.length ≤ length (after ++ drop k out)
      inside = omega (arith, p.within, length-append after (drop k out))

  -- what was put, with the order's answer by its name
  pub answers : (after : List ℕ) (left : List ℤ) (a : Answered) (t : Said) → longest_answer ≤ length out → told r ts line ≡ beside left t → Puts t out after a
      → Answers (told r ts line) out after left a
  answers after left a t l e p =
      subst (λ (u : Told). Answers u out after left a) (sym e)
      (record {
        next = p.next;
        counted = p.counted;
        written = p.put ∙ sets-front out t.bytes (omega (arith, l, p.small));
        tables = refl;
        within = inside;
        part = sym (length-take-le a.length after inside);
      })
    where
      inside : a.length ≤ length after
      inside = omega (arith, p.counted, p.small, ap length p.put ∙ length-sets out 0 t.bytes, l)

-- ---- the tables that are lent, and those that are kept

module _ (ts : List ℤ) (long : length ts ≡ held_numbers) (n k : ℕ) (e : k ≡ min (n * 1089) held_numbers) where
  cut-is : k ≡ min (n * 1089) (length ts)
  cut-is = e ∙ ap (min (n * 1089)) (sym long)

  pub part_length : k ≡ length (take k ts)
  part_length = sym (length-take-le k ts (omega (arith, cut-is)))

  lent_is : take k ts ≡ lent n ts
  unfolding lent
  lent_is = split-starts (n * 1089) ts k cut-is

  keeps-is : (f : List ℤ → List ℤ) (left : List ℤ) → left ≡ f (take k ts) → left ++ drop k ts ≡ keeps n (f (lent n ts)) ts
  unfolding keeps
  keeps-is f left q = ap₂ (λ (xs ys : List ℤ). xs ++ ys) (q ∙ ap f lent_is) (split_rest (n * 1089) ts k cut-is)

-- ---- orders

module _ (r : Auction) (ts : List ℤ) (line : List ℕ) (o : Order) (e : o ≡ order_of line) where
  by : (p : Order) → o ≡ p → told r ts line ≡ told_by r ts line p
  unfolding told
  by p q = ap (told_by r ts line) (sym e ∙ q)

  module _ (long : length ts ≡ held_numbers) (k : ℕ) where
    pub told-open : (m n : ℕ) → k ≡ min (n * 1089) held_numbers → o ≡ Open m n → (x : Reply) (left : List ℤ) → x ≡ open_auction m n (amounts_of line) (take k ts)
        → left ≡ filled_by (open_number m n (amounts_of line) (take k ts)) m n (take k ts) → told r ts line ≡ beside (left ++ drop k ts) (opens r x)
    unfolding told_by fills
    told-open m n d q x left f g =
        by (Open m n) q
        ∙ sym (ap₂ (λ (l : List ℤ) (y : Reply). beside l (opens r y))
        (keeps-is ts long n k d (λ l. filled_by (open_number m n (amounts_of line) l) m n l) left g)
        (f ∙ ap (open_auction m n (amounts_of line)) (lent_is ts long n k d)))

    pub told-above : (m n : ℕ) → k ≡ min (n * 1089) held_numbers → o ≡ OpenAbove m n → (x : Reply) (left : List ℤ)
        → x ≡ open_above m n (starts_of m line) (floors_of m line) (take k ts)
        → left ≡ filled_by (open_above_number m n (starts_of m line) (floors_of m line) (take k ts)) m n (take k ts)
        → told r ts line ≡ beside (left ++ drop k ts) (opens r x)
    unfolding told_by fills
    told-above m n d q x left f g =
        by (OpenAbove m n) q
        ∙ sym (ap₂ (λ (l : List ℤ) (y : Reply). beside l (opens r y))
        (keeps-is ts long n k d (λ l. filled_by (open_above_number m n (starts_of m line) (floors_of m line) l) m n l) left g)
        (f ∙ ap (open_above m n (starts_of m line) (floors_of m line)) (lent_is ts long n k d)))

    module _ (d : k ≡ min (r.bidders * 1089) held_numbers) where
      pub told-report : (b : ℕ) (null : Bool) (set : ℕ) → o ≡ Report b null set → (x : Reply) → x ≡ report r (take k ts) b (saying null set)
          → told r ts line ≡ beside ts (replies x)
      unfolding told_by
      told-report b null set q x f =
          by (Report b null set) q
          ∙ ap (λ (y : Reply). beside ts (replies y)) (sym (f ∙ ap (λ (l : List ℤ). report r l b (saying null set)) (lent_is ts long r.bidders k d)))

      pub told-end : o ≡ End → (a : Ending) (n : Auction) (left : List ℤ) → a ≡ end_answer r (take k ts) → n ≡ end_next r (take k ts) → left ≡ end_tables r (take k ts)
          → told r ts line ≡ beside (left ++ drop k ts) (ends a n)
      unfolding told_by
      told-end q a n left f g h =
          let l = lent_is ts long r.bidders k d in
          by End q
          ∙ sym (ap₂ (λ (x : List ℤ) (y : Said). beside x y)
          (keeps-is ts long r.bidders k d (end_tables r) left h)
          (ap₂ ends (f ∙ ap (end_answer r) l) (g ∙ ap (end_next r) l)))

  pub told-clear : o ≡ Clear → (x : Reply) → x ≡ clear r → told r ts line ≡ beside ts (replies x)
  unfolding told_by
  told-clear q x f = by Clear q ∙ ap (λ (y : Reply). beside ts (replies y)) (sym f)

  pub told-read : o ≡ Read → told r ts line ≡ beside ts (reads r)
  unfolding told_by
  told-read q = by Read q

  pub told_none : o ≡ Unknown → told r ts line ≡ beside ts (replies (record { number = 6; next = r }))
  unfolding told_by replies
  told_none q = by Unknown q

-- ---- a line that opens has whole amounts

abbrev pub is_open : Order → Bool
is_open (Open m n) = true
is_open (OpenAbove m n) = true
is_open (Report b x s) = false
is_open End = false
is_open Clear = false
is_open Read = false
is_open Unknown = false

no-opening : (order : ℕ → ℕ → Order) (o p : Option ℕ)
    → is_open (unwrap_or (o >>= λ m. p >>= λ n. None >>= λ (s : List ℕ). Some (order m n)) Unknown) ≡ false
no-opening order None p = refl
no-opening order (Some m) None = refl
no-opening order (Some m) (Some n) = refl

no-report : (b : Bool) (o p q : Option ℕ)
    → is_open (unwrap_or (cond b (o >>= λ b. p >>= λ x. q >>= λ s. cond (leb x 1) (Some (Report b (eqb x 1) s)) None) None) Unknown) ≡ false
no-report false o p q = refl
no-report true None p q = refl
no-report true (Some b) None q = refl
no-report true (Some b) (Some x) None = refl
no-report true (Some b) (Some x) (Some s) = go (leb x 1)
  where
    go : (t : Bool) → is_open (unwrap_or (cond t (Some (Report b (eqb x 1) s)) None) Unknown) ≡ false
    go true = refl
    go false = refl

no-letter : (a b c d e f : Bool) (x y z : Order) → is_open x ≡ false → is_open y ≡ false → is_open z ≡ false
    → is_open (cond a x (cond b y (cond c z (cond d End (cond e Clear (cond f Read Unknown)))))) ≡ false
no-letter true b c d e f x y z hx hy hz = hx
no-letter false true c d e f x y z hx hy hz = hy
no-letter false false true d e f x y z hx hy hz = hz
no-letter false false false true e f x y z hx hy hz = refl
no-letter false false false false true f x y z hx hy hz = refl
no-letter false false false false false true x y z hx hy hz = refl
no-letter false false false false false false x y z hx hy hz = refl

not-open : (line : List ℕ) → is_some (amounts_at line) ≡ false → is_open (order_of line) ≡ false
unfolding order_of reporting
not-open line e =
    no-letter (starts 111 line) (starts 102 line) (starts 114 line) (alone 101 line) (alone 99 line) (alone 115 line) _ _ _
    (opens_not Open) (opens_not OpenAbove)
    (no-report (eqb (length line) 13) (number_at 2 line 1) (number_at 2 line 3) (number_at 8 line 5))
  where
    opens_not : (order : ℕ → ℕ → Order) → is_open (unwrap_or (opening order line) Unknown) ≡ false
    opens_not order = unfold opening in rw (not-read (amounts_at line) e) (no-opening order (number_at 2 line 1) (number_at 2 line 3))

pub open-amounts : (line : List ℕ) (o p : Order) → o ≡ order_of line → o ≡ p → is_open p ≡ true → is_some (amounts_at line) ≡ true
open-amounts line o p e q h = go (is_some (amounts_at line)) refl
  where
    go : (b : Bool) → is_some (amounts_at line) ≡ b → is_some (amounts_at line) ≡ true
    go true f = f
    go false f = absurd (true≢false (sym h ∙ sym (ap is_open (sym e ∙ q)) ∙ not-open line f))

-- ---- how many items a record has whose prices are told

module _ (m n : ℕ) (start floors : List ℕ) (ts : List ℤ) where
  turned : (j : ℕ) → open_above_number m n start floors ts ≡ suc j → (open_above m n start floors ts).number ≡ suc j
  unfolding unopened
  turned j q = ap (λ (y : Reply). y.number) (by-number m n start floors ts j q)

  in_count : open_above_number m n start floors ts ≡ 0 → (opened m n start floors).items ≤ 32
  unfolding opened
  in_count q = (opens-within m n start floors ts q).max_items

  pub above-items : (x : Reply) → x ≡ open_above m n start floors ts → x.number ≡ 0 → x.next.items ≤ 32
  above-items x e z = go (open_above_number m n start floors ts) refl
    where
      go : (k : ℕ) → open_above_number m n start floors ts ≡ k → x.next.items ≤ 32
      go zero q = subst (λ (y : Reply). y.next.items ≤ 32) (sym (e ∙ accepts m n start floors ts q)) (in_count q)
      go (suc j) q = let bad : suc j ≡ 0 = sym (turned j q) ∙ sym (ap (λ (y : Reply). y.number) e) ∙ z in absurd (omega arith)

pub open-items : (m n : ℕ) (start : List ℕ) (ts : List ℤ) (x : Reply) → x ≡ open_auction m n start ts → x.number ≡ 0 → x.next.items ≤ 32
open-items m n start ts x e = above-items m n start (replicate m 0) ts x (e ∙ sym (zero-floors m n start ts))

settled-items : (r : Auction) (o : Round) → (settled r o).items ≡ r.items
unfolding settled
settled-items r (raised s) = refl
settled-items r (lowered s) = refl
settled-items r closed = refl

abbrev is-gives : Ending → ℕ
is-gives (gives o) = 1
is-gives (refused x) = 0

module _ (r : Auction) (ts : List ℤ) where
  moves : end_number r ts ≡ 0 → end_next r ts ≡ settled r (round_by r)
  unfolding end_next
  moves z = ap (λ (k : ℕ). elim k [ zero ↦ settled r (round_by r) | suc j ↦ r ]) z

  stops : (j : ℕ) → end_number r ts ≡ suc j → end_answer r ts ≡ refused (suc j)
  unfolding end_answer
  stops j z = ap (λ (k : ℕ). elim k [ zero ↦ gives (round_by r) | suc i ↦ refused (suc i) ]) z

  well : end_number r ts ≡ 0 → r.items ≤ 32
  unfolding end_number
  well z = (formed r (not-false (well_formed r) (first_none 10 (not (well_formed r)) _ z).0)).max_items

  pub end-items : (a : Ending) (next : Auction) (o : Round) → a ≡ end_answer r ts → next ≡ end_next r ts → a ≡ gives o → next.items ≤ 32
  end-items a next o e f q = go (end_number r ts) refl
    where
      go : (k : ℕ) → end_number r ts ≡ k → next.items ≤ 32
      go zero z = let same : next.items ≡ r.items = ap (λ (y : Auction). y.items) (f ∙ moves z) ∙ settled-items r (round_by r) in omega (arith, same, well z)
      go (suc j) z = absurd (let y : ◌≡◌ {A = ℕ} 0 1 = ap is-gives (sym (stops j z) ∙ sym e ∙ q) in omega arith)
