-- The first assignment, bidder after bidder: an option is taken if the later bidders can be completed, and what that asks. THEORY.md 3.2. Assumes nothing.
use Prim.Native.Nat.{ℕ, zero, suc, ◌+◌, ◌-◌, ◌≤◌, ◌<◌}
use mathlib.Core.Path.{◌≡◌, sym, ap, ◌∙◌, fun_ext}
use mathlib.Core.Bool.{Bool, true}
use mathlib.Core.List.{List, [], ◌∷◌, ◌++◌}
use mathlib.Core.Logic.{◌⊎◌, inl, inr}
use native.Mathlib.Omega.{arith}
use native.Mathlib.Decide.{dec_le}
use lib.ListN.{length, length-append, get_or, get_or-append}
use lib.Seq.{append_snoc, get_or-append-add}
use Rattle.sets.specs.Bit.{has, lowest}
use Rattle.rule.specs.Demand.{Demand, wants, nth}
use Rattle.sets.specs.Lists.{tabulate}
use Rattle.sets.proofs.Counting.{lt-or-le}
use Rattle.sets.proofs.Lists.{tabulate-length, tabulate-at}
use Rattle.rule.specs.Assignment.{option, fits, some_list, choose}
pub use Rattle.rule.specs.Completion.{Begun, Rest}
use Rattle.rule.proofs.Order.{Listed, none, listed, some-make, choose-passes}
use Rattle.rule.proofs.Fitting.{Fits, fits-use, fits-make}

-- the option of the bidder after ys: the lowest after which some list of j options passes
abbrev pub next_option : ℕ → ℕ → (List ℕ → Bool) → List ℕ → ℕ
next_option m j f ys = lowest m λ i. some_list m j (λ xs. f (ys ++ i ∷ xs))

-- one bidder more
pub choose-next : (m j : ℕ) (f : List ℕ → Bool) (ys : List ℕ)
    → choose m (suc j) (λ xs. f (ys ++ xs)) ≡ next_option m j f ys ∷ choose m j (λ xs. f (ys ++ (next_option m j f ys ∷ []) ++ xs))
unfolding choose
choose-next m j f ys =
    ap (λ (g : List ℕ → Bool). next_option m j f ys ∷ choose m j g) (fun_ext (λ xs. ap f (sym (append_snoc ys (next_option m j f ys) xs))))

-- where some list passes, here is one
pub some-use : (m n : ℕ) (f : List ℕ → Bool) → some_list m n f ≡ true → (xs : List ℕ) × (Listed m n xs) × (f xs ≡ true)
some-use m n f e = let w = choose-passes m n f e in (choose m n f, w.0, w.1)

-- ---- the options of ys and one more

pub option-low : (ys zs : List ℕ) (a : ℕ) → a < length ys → option (ys ++ zs) a ≡ option ys a
unfolding option
option-low ys zs a l = get_or-append ys zs 0 a l

pub option-at : (ys zs : List ℕ) (x : ℕ) → option (ys ++ x ∷ zs) (length ys) ≡ x
unfolding option
option-at ys zs x = let e : length ys + 0 ≡ length ys = omega arith in ap (λ (a : ℕ). get_or (ys ++ x ∷ zs) a 0) (sym e) ∙ get_or-append-add ys (x ∷ zs) 0 0

pub snoc-length : (ys : List ℕ) (x : ℕ) → length (ys ++ (x ∷ [])) ≡ suc (length ys)
snoc-length ys x = omega (arith, length-append ys (x ∷ []))

-- a place of ys and one more is a place of ys, or the last
abbrev pub Snoc : List ℕ → ℕ → ℕ → Type 0
Snoc ys x a = ((a < length ys) × (option (ys ++ (x ∷ [])) a ≡ option ys a)) ⊎ ((a ≡ length ys) × (option (ys ++ (x ∷ [])) a ≡ x))

pub snoc-split : (ys : List ℕ) (x a : ℕ) → a < length (ys ++ (x ∷ [])) → Snoc ys x a
snoc-split ys x a l = go (lt-or-le a (length ys))
  where
    go : (a < length ys) ⊎ (length ys ≤ a) → Snoc ys x a
    go (inl q) = inl (q, option-low ys (x ∷ []) a q)
    go (inr q) = let e : a ≡ length ys = omega (arith, l, q, snoc-length ys x) in inr (e, ap (option (ys ++ (x ∷ []))) e ∙ option-at ys [] x)

module _ (m n : ℕ) (d : ℕ → ℕ → Bool) (above : ℕ → Bool) (ys : List ℕ) where
  low : (xs : List ℕ) (b : ℕ) → b < length ys → option (ys ++ xs) b ≡ option ys b
  low xs = option-low ys xs

  -- a list that fits completes
  pub fits-rest : (xs : List ℕ) → length ys ≤ n → Fits m n d above (ys ++ xs) → Rest m n d above ys (option (ys ++ xs))
  fits-rest xs k f =
      record {
        small = λ b lo l. f.assigns.small b l;
        wanted = λ b lo l. f.wanted b l;
        once = λ b c lb l lc r. f.assigns.once b c l r;
        left = λ b c lb l lc pos e.
            let q = f.assigns.once b c l (omega arith) pos (sym (low xs c lc ∙ e)) in
            omega arith;
        covers = λ i l u. let w = f.covers i l u in place i w.0 w.1 w.2 (dec_le (length ys) w.0);
      }
    where
      place : (i b : ℕ) → b < n → option (ys ++ xs) b ≡ i → Dec (length ys ≤ b)
          → ((c : ℕ) × (c < length ys) × (option ys c ≡ i)) ⊎ ((b : ℕ) × (length ys ≤ b) × (b < n) × (option (ys ++ xs) b ≡ i))
      place i b l e (yes h) = inr (b, h, l, e)
      place i b l e (no h) = inl (b, omega arith, sym (low xs b (omega arith)) ∙ e)

  -- and what completes gives a list that fits
  module _ (j : ℕ) (len : length ys + j ≡ n) (to : ℕ → ℕ) (b₀ : Begun m n d above ys) (r : Rest m n d above ys to) where
    unfoldable pub rest : List ℕ
    rest = tabulate j to (length ys)

    high : (b : ℕ) → length ys ≤ b → b < n → option (ys ++ rest) b ≡ to b
    unfolding option rest
    high b lo l =
        let e : length ys + (b - length ys) ≡ b = omega arith in
        ap (option (ys ++ rest)) (sym e) ∙ get_or-append-add ys (tabulate j to (length ys)) (b - length ys) 0
        ∙ tabulate-at j to (length ys) (b - length ys) 0 (omega arith) ∙ ap to e

    pub rest-fits : Fits m n d above (ys ++ rest)
    rest-fits =
        record {
          assigns = record { all = all; small = λ b l. small b l (dec_le (length ys) b); once = λ b c l k pos e. once b c l k pos e (dec_le (length ys) b) (dec_le (length ys) c) };
          wanted = λ b l. wanted b l (dec_le (length ys) b);
          covers = λ i l u. covers i (r.covers i l u);
        }
      where
        all : length (ys ++ rest) ≡ n
        all = let t : length rest ≡ j = unfold rest in tabulate-length j to (length ys) in omega (arith, length-append ys rest)

        small : (b : ℕ) → b < n → Dec (length ys ≤ b) → option (ys ++ rest) b < suc m
        small b l (yes h) = omega (arith, high b h l, r.small b h l)
        small b l (no h) = omega (arith, low rest b (omega arith), b₀.small b (omega arith))

        wanted : (b : ℕ) → b < n → Dec (length ys ≤ b) → d b (option (ys ++ rest) b) ≡ true
        wanted b l (yes h) = ap (d b) (high b h l) ∙ r.wanted b h l
        wanted b l (no h) = ap (d b) (low rest b (omega arith)) ∙ b₀.wanted b (omega arith)

        once : (b c : ℕ) → b < n → c < n → 0 < option (ys ++ rest) b → option (ys ++ rest) b ≡ option (ys ++ rest) c → Dec (length ys ≤ b) → Dec (length ys ≤ c) → b ≡ c
        once b c l k pos e (yes p) (yes q) = r.once b c p l q k (omega (arith, high b p l)) (sym (high b p l) ∙ e ∙ high c q k)
        once b c l k pos e (yes p) (no q) = absurd (r.left b c p l (omega arith) (omega (arith, high b p l)) (sym (low rest c (omega arith)) ∙ sym e ∙ high b p l))
        once b c l k pos e (no p) (yes q) =
            absurd (r.left c b q k (omega arith) (omega (arith, high c q k)) (sym (low rest b (omega arith)) ∙ e ∙ high c q k))
        once b c l k pos e (no p) (no q) =
            b₀.once b c (omega arith) (omega arith) (omega (arith, low rest b (omega arith))) (sym (low rest b (omega arith)) ∙ e ∙ low rest c (omega arith))

        covers : (i : ℕ) → ((c : ℕ) × (c < length ys) × (option ys c ≡ i)) ⊎ ((b : ℕ) × (length ys ≤ b) × (b < n) × (to b ≡ i)) → (b : ℕ) × (b < n) × (option (ys ++ rest) b ≡ i)
        covers i (inl w) = (w.0, omega (arith, w.1, len), low rest w.0 w.1 ∙ w.2)
        covers i (inr w) = (w.0, w.2, high w.0 w.1 w.2 ∙ w.3)

tabulate-listed : (m j : ℕ) (to : ℕ → ℕ) (k : ℕ) → ((b : ℕ) → k ≤ b → b < k + j → to b < suc m) → Listed m j (tabulate j to k)
unfolding tabulate
tabulate-listed m zero to k h = none
tabulate-listed m (suc j) to k h =
    let first = h k (omega arith) (omega arith) in
    listed (to k) (omega arith) (tabulate-listed m j to (suc k) (λ b lo l. h b (omega arith) (omega arith)))

-- ---- what the definition's test of a completion says

module _ (m above : ℕ) (ds : List Demand) (ys : List ℕ) (j : ℕ) (len : length ys + j ≡ length ds) where
  pub completes-use : some_list m j (λ xs. fits m above ds (ys ++ xs)) ≡ true → (to : ℕ → ℕ) × Rest m (length ds) (λ b. wants (nth ds b)) (has above) ys to
  completes-use e =
      let w = some-use m j (λ xs. fits m above ds (ys ++ xs)) e in
      (option (ys ++ w.0), fits-rest m (length ds) (λ b. wants (nth ds b)) (has above) ys w.0 (omega (arith, len)) (fits-use m above ds (ys ++ w.0) w.2))

  pub completes-make : (to : ℕ → ℕ) → Begun m (length ds) (λ b. wants (nth ds b)) (has above) ys → Rest m (length ds) (λ b. wants (nth ds b)) (has above) ys to
      → some_list m j (λ xs. fits m above ds (ys ++ xs)) ≡ true
  unfolding rest
  completes-make to b r =
      some-make m j (λ xs. fits m above ds (ys ++ xs)) (tabulate j to (length ys)) (tabulate-listed m j to (length ys) (λ c lo l. r.small c lo (omega (arith, len))))
      (fits-make m above ds (ys ++ tabulate j to (length ys)) (rest-fits m (length ds) (λ b. wants (nth ds b)) (has above) ys j len to b r))
