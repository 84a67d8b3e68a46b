-- The answer to a read: the sheet stands behind the number's line. Assumes nothing.
use Prim.Native.Nat.{ℕ, zero, suc, ◌+◌, ◌*◌, ◌-◌, ◌/◌, ◌%◌, ◌≤◌, ◌<◌}
use mathlib.Core.Path.{◌≡◌, refl, sym, ap, ◌∙◌, subst}
use mathlib.Core.Bool.{Bool, true, false, not, cond}
use mathlib.Core.List.{List, [], ◌∷◌, ◌++◌, append_assoc, append-nil}
use native.Mathlib.Omega.{arith}
use lib.Dec.{ltb}
use lib.ListN.{length, set, take, drop, replicate, length-append, length-drop, length-replicate, take-append-drop}
use lib.Seq.{sets, sets-eq, length-sets, set_comm, take_all, drop-drop}
use borrow.Author.Tests.{le-ltb, not-false}
use borrow.Rule.Slice.PartMut.{mid_of, post_of, put_mid}
use Rattle.rule.specs.Refusal.{Refusal, on, first, most_live_bidders}
use Rattle.rule.proofs.Refusal.{given, none}
use Rattle.lines.specs.Lines.{newline, number_text, number_line, closing_length, written_to}
use Rattle.lines.proofs.Numbered.{number-long, refusal-put}
use Rattle.lines.proofs.Stores.{sets_then}
use Rattle.lines.proofs.Lengths.{closing-length}
use Rattle.live.specs.Auction.{well_formed}
use Rattle.live.specs.Calls.{is_closed}
use Rattle.live.specs.Reading.{too_few, sheet_of, read_number, read_bytes}
use Rattle.live.specs.declared.Auction.{Auction}
use Rattle.live.proofs.Formed.{Formed, formed}
use Rattle.console.specs.Answers.{longest_sheet, sheet_text, reads}
use Rattle.console.specs.Steps.{longest_answer, Puts}

-- ---- the number does not depend on the bytes, if they are enough for any sheet

enough : (r : Auction) (out : List ℕ) → longest_sheet ≤ length out → well_formed r ≡ true → too_few r out ≡ false
unfolding closing_length
enough r out l w = let f = formed r w in le-ltb (length out) (15 + 4 * r.items + 2 * r.bidders) (omega (arith, f.max_items, f.max_bidders))

pub same_number : (r : Auction) (xs ys : List ℕ) → longest_sheet ≤ length xs → longest_sheet ≤ length ys → read_number r xs ≡ read_number r ys
unfolding read_number
same_number r xs ys l h = go (well_formed r) refl
  where
    tail : List ℕ → List Refusal
    tail out = on 15 (not (is_closed r.phase)) ∷ on 3 (too_few r out) ∷ []

    go : (b : Bool) → well_formed r ≡ b
        → first (on 11 (not (well_formed r)) ∷ on 15 (not (is_closed r.phase)) ∷ on 3 (too_few r xs) ∷ [])
        ≡ first (on 11 (not (well_formed r)) ∷ on 15 (not (is_closed r.phase)) ∷ on 3 (too_few r ys) ∷ [])
    go false e = given 11 (not (well_formed r)) (tail xs) (ap not e) ∙ sym (given 11 (not (well_formed r)) (tail ys) (ap not e))
    go true e = ap (λ (b : Bool). first (on 11 (not (well_formed r)) ∷ on 15 (not (is_closed r.phase)) ∷ on 3 b ∷ [])) (enough r xs l e ∙ sym (enough r ys h e))

-- a read that gets no number is of a well formed record
pub read-formed : (r : Auction) (out : List ℕ) → read_number r out ≡ 0 → well_formed r ≡ true
unfolding read_number
read-formed r out e = not-false (well_formed r) (none 10 (not (well_formed r)) (on 15 (not (is_closed r.phase)) ∷ on 3 (too_few r out) ∷ []) e).0

-- ---- the bytes behind the line

module _ (out : List ℕ) (l : 3 ≤ length out) where
  abbrev lent : List ℕ
  lent = mid_of 3 (length out - 3) out

  pub lent_is : lent ≡ drop 3 out
  lent_is = take_all (length out - 3) (drop 3 out) (omega (arith, length-drop 3 out))

  none_left : post_of 3 (length out - 3) out ≡ []
  none_left = no_more (drop (length out - 3) (drop 3 out)) (let a = length-drop (length out - 3) (drop 3 out) in let b = length-drop 3 out in omega arith)
    where
      no_more : (xs : List ℕ) → length xs ≡ 0 → xs ≡ []
      no_more [] e = refl
      no_more (x ∷ xs) e = absurd (omega arith)

  back : (xs : List ℕ) → put_mid 3 (length out - 3) out xs ≡ take 3 out ++ xs
  back xs = ap (λ (ys : List ℕ). take 3 out ++ (xs ++ ys)) none_left ∙ ap (λ (ys : List ℕ). take 3 out ++ ys) (append-nil xs)

  pub unchanged : put_mid 3 (length out - 3) out lent ≡ out
  unchanged = back lent ∙ ap (λ (ys : List ℕ). take 3 out ++ ys) lent_is ∙ take-append-drop 3 out

  pub behind-line : (sheet : List ℕ) → 3 + length sheet ≤ length out → put_mid 3 (length out - 3) out (written_to lent sheet) ≡ sets out 3 sheet
  unfolding written_to
  behind-line sheet h =
      back (written_to lent sheet)
      ∙ ap (λ (ys : List ℕ). take 3 out ++ (sheet ++ drop (length sheet) ys)) lent_is
      ∙ ap (λ (ys : List ℕ). take 3 out ++ (sheet ++ ys)) (drop-drop (length sheet) 3 out)
      ∙ sym (append_assoc (take 3 out) sheet (drop (3 + length sheet) out))
      ∙ sym (sets-eq sheet out 3 h)

-- ---- the line is put before or after the sheet

set-sets : (l vs : List ℕ) (i j a : ℕ) → i < j → set (sets l j vs) i a ≡ sets (set l i a) j vs
set-sets l [] i j a h = refl
set-sets l (v ∷ vs) i j a h = set-sets (set l j v) vs i (suc j) a (omega arith) ∙ ap (λ (x : List ℕ). sets x (suc j) vs) (set_comm l j i v a (omega arith))

line_first : (l sheet : List ℕ) (x : ℕ) → sets (sets l 3 sheet) 0 (number_line x) ≡ sets l 0 (number_line x ++ sheet)
line_first l sheet x =
    swapped
    ∙ sets_then l 0 3 (number_line x) sheet (omega (arith, number-long x))
  where
    a : ℕ
    a = 48 + x / 10

    b : ℕ
    b = 48 + x % 10

    swapped : sets (sets l 3 sheet) 0 (number_line x) ≡ sets (sets l 0 (number_line x)) 3 sheet
    swapped =
        unfold number_line number_text newline in
        ap (λ (y : List ℕ). set (set y 1 b) 2 10) (set-sets l sheet 0 3 a (omega arith))
        ∙ ap (λ (y : List ℕ). set y 2 10) (set-sets (set l 0 a) sheet 1 3 b (omega arith))
        ∙ set-sets (set (set l 0 a) 1 b) sheet 2 3 10 (omega arith)

-- ---- the answer

module _ (r : Auction) (out after : List ℕ) (x : ℕ) (long : longest_answer ≤ length out) where
  abbrev lent-bytes : List ℕ
  lent-bytes = mid_of 3 (length out - 3) out

  lent-long : longest_sheet ≤ length lent-bytes
  lent-long = subst (λ (l : List ℕ). longest_sheet ≤ length l) (sym (lent_is out (omega arith))) (omega (arith, length-drop 3 out))

  number_is : x ≡ read_number r lent-bytes → x ≡ read_number r (replicate longest_sheet 0)
  number_is e = e ∙ same_number r lent-bytes (replicate longest_sheet 0) lent-long (omega (arith, length-replicate {A = ℕ} longest_sheet 0))

  reads_as : x ≡ read_number r lent-bytes → reads r ≡ record { bytes = number_line x ++ sheet_text r x; next = r }
  unfolding reads
  reads_as e = ap (λ (y : ℕ). record { bytes = number_line y ++ sheet_text r y; next = r }) (sym (number_is e))

  module _ (e : x ≡ read_number r lent-bytes) (got mid : List ℕ) (f : got ≡ read_bytes r lent-bytes) (g : mid ≡ put_mid 3 (length out - 3) out got)
      (line : after ≡ cond (ltb (length mid) 3) mid (sets mid 0 (number_line x))) where
    -- turned down: the line alone
    pub shown-number : (x ≡ 0 → ⊥) → Puts (reads r) out after (record { length = 3; next = r })
    shown-number ne =
        subst (λ t. Puts t out after (record { length = 3; next = r })) (sym (reads_as e))
        (record {
          next = refl;
          counted = sym (ap length bytes-are ∙ number-long x);
          small = omega (arith, ap length bytes-are ∙ number-long x);
          put = h ∙ ap (λ (l : List ℕ). sets l 0 (number_line x)) same ∙ ap (sets out 0) (sym bytes-are);
        })
      where
        bytes-are : number_line x ++ sheet_text r x ≡ number_line x
        bytes-are = go x ne
          where
            go : (y : ℕ) → (y ≡ 0 → ⊥) → number_line x ++ sheet_text r y ≡ number_line x
            go zero n = absurd (n refl)
            go (suc j) n = unfold sheet_text in append-nil (number_line x)

        kept : (y : ℕ) → y ≡ read_number r lent-bytes → (y ≡ 0 → ⊥) → read_bytes r lent-bytes ≡ lent-bytes
        kept zero q n = absurd (n refl)
        kept (suc j) q n = unfold read_bytes in ap (λ (k : ℕ). elim k [ zero ↦ written_to lent-bytes (sheet_of r) | suc i ↦ lent-bytes ]) (sym q)

        same : mid ≡ out
        same = g ∙ ap (put_mid 3 (length out - 3) out) (f ∙ kept x e ne) ∙ unchanged out (omega arith)

        h : after ≡ sets mid 0 (number_line x)
        h = refusal-put mid after x (omega (arith, ap length same, long)) line

    -- read: the sheet behind the line
    pub shown-sheet : x ≡ 0 → Puts (reads r) out after (record { length = 18 + 4 * r.items + 2 * r.bidders; next = r })
    shown-sheet z =
        subst (λ t. Puts t out after (record { length = 18 + 4 * r.items + 2 * r.bidders; next = r })) (sym (reads_as e))
        (record {
          next = refl;
          counted = sym whole;
          small = omega (arith, whole, well.max_items, well.max_bidders);
          put = h ∙ ap (λ (l : List ℕ). sets l 0 (number_line x)) put-sheet ∙ line_first out (sheet_of r) x ∙ ap (λ (l : List ℕ). sets out 0 (number_line x ++ l)) (sym sheet_is);
        })
      where
        well : Formed r
        well = formed r (read-formed r lent-bytes (sym e ∙ z))

        sheet_is : sheet_text r x ≡ sheet_of r
        sheet_is = unfold sheet_text in ap (λ (k : ℕ). elim k [ zero ↦ sheet_of r | suc j ↦ [] ]) z

        sheet-long : length (sheet_of r) ≡ 15 + 4 * r.items + 2 * r.bidders
        sheet-long = unfold sheet_of closing_length in closing-length r.items r.bidders r.raised r.lowered r.prices _

        whole : length (number_line x ++ sheet_text r x) ≡ 18 + 4 * r.items + 2 * r.bidders
        whole = length-append (number_line x) (sheet_text r x) ∙ (let a = ap length sheet_is in omega (arith, number-long x, a, sheet-long))

        gotten : got ≡ written_to lent-bytes (sheet_of r)
        gotten = f ∙ (unfold read_bytes in ap (λ (k : ℕ). elim k [ zero ↦ written_to lent-bytes (sheet_of r) | suc i ↦ lent-bytes ]) (sym e ∙ z))

        put-sheet : mid ≡ sets out 3 (sheet_of r)
        put-sheet =
            g ∙ ap (put_mid 3 (length out - 3) out) gotten
            ∙ behind-line out (omega arith) (sheet_of r) (omega (arith, sheet-long, well.max_items, well.max_bidders))

        h : after ≡ sets mid 0 (number_line x)
        h = refusal-put mid after x (omega (arith, ap length put-sheet, length-sets out 3 (sheet_of r), long)) line

  -- how much is counted without a wrap
  pub shown-small : x ≡ read_number r lent-bytes → x ≡ 0 → (r.items ≤ 32) × (r.bidders ≤ most_live_bidders)
  shown-small e z = let f = formed r (read-formed r lent-bytes (sym e ∙ z)) in (f.max_items, f.max_bidders)
