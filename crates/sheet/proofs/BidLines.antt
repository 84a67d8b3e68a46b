-- The bidders' lines: what is written is what reading gives, and the other way round. Assumes nothing.
use Prim.Native.Nat.{ℕ, zero, suc, ◌+◌, ◌*◌, ◌-◌, ◌^◌, ◌≤◌, ◌<◌}
use mathlib.Core.Path.{◌≡◌, refl, sym, ap, ◌∙◌, subst}
use mathlib.Core.Bool.{Bool, true, false, cond}
use mathlib.Core.List.{List, [], ◌∷◌, ◌++◌}
use Rattle.std.specs.Prelude.{Option, None, Some}
use native.Mathlib.Omega.{arith}
use native.Mathlib.Nat.{not-suc-le-zero, suc-mul, zero-mul, zero-add}
use native.Mathlib.Decide.{dec_lt}
use lib.Dec.{eqb}
use lib.ListN.{length, get_or, take, drop, length-append, length-drop, take-append-drop, get_or-append}
use lib.Seq.{get_or-append-add, get_or-drop, get_or-take, length-take-le}
use borrow.Author.Tests.{eq-eqb, eqb-true}
use Rattle.sets.proofs.Lists.{is-tabulate}
use Rattle.digits.specs.Digits.{hex}
use Rattle.lines.specs.Lines.{newline, joined}
use Rattle.digits.specs.Reading.{◌>>=◌}
use Rattle.lines.specs.Reading.{line_at}
use Rattle.digits.proofs.Digits.{hex-length}
use Rattle.lines.proofs.Lengths.{line-length, joined_length, newline-length}
use Rattle.lines.proofs.Same.{joined_same}
use Rattle.digits.proofs.Stands.{Stands, nothing, front, back, both}
use Rattle.digits.proofs.Gives.{gives, gave}
use Rattle.lines.proofs.Line.{line-at, line_read}
use Rattle.sheet.specs.BidSheet.{bids_at}
use Rattle.sheet.specs.Writing.{bid_line}
use Rattle.std.proofs.lemmas.Option.{none-some}

-- ---- lengths

pub bid-line-length : (m : ℕ) (bids : List ℕ) (b : ℕ) → length (bid_line m bids b) ≡ 4 * m + 1
unfolding bid_line
bid-line-length m bids b =
    let f : ℕ → List ℕ = λ k. hex 4 (get_or bids (b * m + k) 0) in
    omega (arith, length-append (joined m f) newline, joined_length m 4 f (λ k. hex-length 4 (get_or bids (b * m + k) 0)), newline-length)

pub bid-lines-length : (m n : ℕ) (bids : List ℕ) → length (joined n (bid_line m bids)) ≡ (4 * m + 1) * n
bid-lines-length m n bids = joined_length n (4 * m + 1) (bid_line m bids) (bid-line-length m bids)

-- ---- a line more: the first line's bids, and the others'

module _ (m : ℕ) (ys zs : List ℕ) (e : length ys ≡ m) where
  first-line : bid_line m (ys ++ zs) 0 ≡ joined m (λ k. hex 4 (get_or ys k 0)) ++ newline
  unfolding bid_line
  first-line =
      ap (λ (r : List ℕ). r ++ newline)
      (joined_same m (λ k. hex 4 (get_or (ys ++ zs) (0 * m + k) 0)) (λ k. hex 4 (get_or ys k 0))
      (λ k l.
      let z : 0 * m + k ≡ k = omega (arith, zero-mul m) in
      ap (λ (j : ℕ). hex 4 (get_or (ys ++ zs) j 0)) z ∙ ap (hex 4) (get_or-append ys zs 0 k (omega arith))))

  other-line : (b : ℕ) → bid_line m (ys ++ zs) (suc b) ≡ bid_line m zs b
  unfolding bid_line
  other-line b =
      ap (λ (r : List ℕ). r ++ newline)
      (joined_same m (λ k. hex 4 (get_or (ys ++ zs) (suc b * m + k) 0)) (λ k. hex 4 (get_or zs (b * m + k) 0))
      (λ k l.
      let z : suc b * m + k ≡ length ys + (b * m + k) = omega (arith, suc-mul b m, e) in
      ap (λ (j : ℕ). hex 4 (get_or (ys ++ zs) j 0)) z ∙ ap (hex 4) (get_or-append-add ys zs (b * m + k) 0)))

  pub more-lines : (n : ℕ) → joined (suc n) (bid_line m (ys ++ zs)) ≡ joined m (λ k. hex 4 (get_or ys k 0)) ++ newline ++ joined n (bid_line m zs)
  unfolding joined
  more-lines n =
      ap (λ (r : List ℕ). r ++ joined n (λ b. bid_line m (ys ++ zs) (suc b))) first-line
      ∙ ap (λ (r : List ℕ). joined m (λ k. hex 4 (get_or ys k 0)) ++ newline ++ r) (joined_same n (λ b. bid_line m (ys ++ zs) (suc b)) (bid_line m zs) (λ b l. other-line b))

-- ---- reading

-- the bids xs of n bidders were read from a place on, up to the last byte
pub record Bids (bytes : List ℕ) (at n m : ℕ) (xs : List ℕ) : Type 0 where
  pub many : length xs ≡ n * m
  pub small : (k : ℕ) → k < n * m → get_or xs k 0 < 16 ^ 4
  pub stands : Stands bytes at (joined n (bid_line m xs))
  pub ends : at + (4 * m + 1) * n ≡ length bytes

ended : (at l : ℕ) (xs : List ℕ) → cond (eqb at l) (Some []) None ≡ Some xs → (at ≡ l) × ([] ≡ xs)
ended at l xs e = go (eqb at l) refl e
  where
    go : (t : Bool) → eqb at l ≡ t → cond t (Some []) None ≡ Some xs → (at ≡ l) × ([] ≡ xs)
    go true h f = (eqb-true at l h, cc (f))
    go false h f = absurd (none-some xs f)

either : (p : ℕ → Type 0) (ys zs : List ℕ) → ((k : ℕ) → k < length ys → p (get_or ys k 0)) → ((k : ℕ) → k < length zs → p (get_or zs k 0))
    → (k : ℕ) → k < length ys + length zs → p (get_or (ys ++ zs) k 0)
either p ys zs h g k l = go (dec_lt k (length ys))
  where
    go : Dec (k < length ys) → p (get_or (ys ++ zs) k 0)
    go (yes q) = subst p (sym (get_or-append ys zs 0 k q)) (h k q)
    go (no q) =
        let j : ℕ = k - length ys in
        let e : k ≡ length ys + j = omega arith in
        subst p (sym (ap (λ (i : ℕ). get_or (ys ++ zs) i 0) e ∙ get_or-append-add ys zs j 0)) (g j (omega arith))

empty : (xs : List ℕ) → length xs ≡ 0 → xs ≡ []
empty [] e = refl
empty (x ∷ xs) e = absurd (let f : ⊥ = omega arith in f)

module _ (bytes : List ℕ) (m : ℕ) where
  pub bids-read : (n at : ℕ) (xs : List ℕ) → at ≤ length bytes → bids_at n m bytes at ≡ Some xs → Bids bytes at n m xs
  unfolding bids_at
  bids-read zero at xs l e =
      let w = ended at (length bytes) xs e in
      let z : at + (4 * m + 1) * 0 ≡ length bytes = omega (arith, w.0) in
      subst (λ (ys : List ℕ). Bids bytes at 0 m ys) w.1
      (record {
        many = sym (zero-mul m);
        small = λ k h. absurd (not-suc-le-zero {n = k} (omega (arith, zero-mul m, h)));
        stands = unfold joined in nothing bytes at l;
        ends = z;
      })
  bids-read (suc n) at xs l e =
      let g = gave (line_at m 4 bytes at) (λ ys. bids_at n m bytes (at + 4 * m + 1) >>= λ zs. Some (ys ++ zs)) xs e in
      let ys : List ℕ = g.0 in
      let h = gave (bids_at n m bytes (at + 4 * m + 1)) (λ zs. Some (ys ++ zs)) xs g.2 in
      let zs : List ℕ = h.0 in
      let line = line_read bytes m 4 at ys l g.1 in
      let long : length ys ≡ m = line.0.many in
      let width = line-length m 4 ys in
      let next : at + 4 * m + 1 ≤ length bytes = omega (arith, line.1.fits, width) in
      let rest : Bids bytes (at + 4 * m + 1) n m zs = bids-read n (at + 4 * m + 1) zs next h.1 in
      let place : at + 4 * m + 1 ≡ at + length (joined m (λ k. hex 4 (get_or ys k 0)) ++ newline) = omega (arith, width) in
      let all : suc n * m ≡ length ys + length zs = omega (arith, suc-mul n m, rest.many, long) in
      subst (λ (vs : List ℕ). Bids bytes at (suc n) m vs) (let same : ys ++ zs ≡ xs = cc (h.2) in same)
      (record {
        many = omega (arith, length-append ys zs, all);
        small = λ k q. either (λ x. x < 16 ^ 4) ys zs (λ i r. line.0.small i (omega arith)) (λ i r. rest.small i (omega (arith, r, rest.many))) k (omega (arith, q, all));
        stands = subst (λ (vs : List ℕ). Stands bytes at vs) (sym (more-lines m ys zs long n))
            (both bytes at (joined m (λ k. hex 4 (get_or ys k 0)) ++ newline) (joined n (bid_line m zs)) line.1
            (subst (λ (j : ℕ). Stands bytes j (joined n (bid_line m zs))) place rest.stands));
        ends = omega (arith, rest.ends);
      })

  pub bids-at : (n at : ℕ) (xs : List ℕ) → length xs ≡ n * m → ((k : ℕ) → k < n * m → get_or xs k 0 < 16 ^ 4) → Stands bytes at (joined n (bid_line m xs))
      → at + (4 * m + 1) * n ≡ length bytes → bids_at n m bytes at ≡ Some xs
  unfolding bids_at
  bids-at zero at xs e h s l =
      let here : at ≡ length bytes = omega arith in
      ap (λ (t : Bool). cond t (Some []) None) (eq-eqb at (length bytes) here) ∙ ap {B = Option (List ℕ)} Some (sym (empty xs (omega (arith, e, zero-mul m))))
  bids-at (suc n) at xs e h s l =
      let ys : List ℕ = take m xs in
      let zs : List ℕ = drop m xs in
      let split : ys ++ zs ≡ xs = take-append-drop m xs in
      let size : suc n * m ≡ n * m + m = suc-mul n m in
      let fits : m ≤ length xs = omega arith in
      let long : length ys ≡ m = length-take-le m xs fits in
      let rest : length zs ≡ n * m = omega (arith, length-drop m xs) in
      let line : List ℕ = joined m (λ k. hex 4 (get_or ys k 0)) ++ newline in
      let width : length line ≡ 4 * m + 1 = line-length m 4 ys in
      let whole : Stands bytes at (line ++ joined n (bid_line m zs)) =
      subst (λ (vs : List ℕ). Stands bytes at vs) (ap (λ (v : List ℕ). joined (suc n) (bid_line m v)) (sym split) ∙ more-lines m ys zs long n) s in
      let place : at + length line ≡ at + 4 * m + 1 = omega arith in
      let behind : Stands bytes (at + 4 * m + 1) (joined n (bid_line m zs)) =
      subst (λ (j : ℕ). Stands bytes j (joined n (bid_line m zs))) place (back bytes at line (joined n (bid_line m zs)) whole) in
      let ys-small : (k : ℕ) → k < m → get_or ys k 0 < 16 ^ 4 =
      λ k q. subst (λ (x : ℕ). x < 16 ^ 4) (sym (get_or-take m xs k 0 q)) (h k (omega arith)) in
      let zs-small : (k : ℕ) → k < n * m → get_or zs k 0 < 16 ^ 4 =
      λ k q. subst (λ (x : ℕ). x < 16 ^ 4) (sym (get_or-drop m xs k 0)) (h (m + k) (omega arith)) in
      let is-ys : line_at m 4 bytes at ≡ Some ys =
      line-at bytes m 4 at (λ k. get_or ys k 0) ys-small (front bytes at line (joined n (bid_line m zs)) whole)
      ∙ ap {B = Option (List ℕ)} Some (sym (is-tabulate m ys (λ k. get_or ys k 0) 0 long (λ k q. ap (λ (j : ℕ). get_or ys j 0) (sym (zero-add k))))) in
      let is-zs : bids_at n m bytes (at + 4 * m + 1) ≡ Some zs = bids-at n (at + 4 * m + 1) zs rest zs-small behind (omega arith) in
      gives (line_at m 4 bytes at) (λ us. bids_at n m bytes (at + 4 * m + 1) >>= λ vs. Some (us ++ vs)) ys is-ys
      ∙ gives (bids_at n m bytes (at + 4 * m + 1)) (λ vs. Some (ys ++ vs)) zs is-zs
      ∙ ap {B = Option (List ℕ)} Some split
