-- The names fill 64 places, one bidder after the other. THEORY.md 3.2. Assumes nothing.
use Prim.Native.Nat.{ℕ, suc, ◌+◌, ◌-◌, ◌≤◌, ◌<◌}
use mathlib.Core.Path.{◌≡◌, refl, sym, ap, ◌∙◌, subst, fun_ext}
use mathlib.Core.Bool.{Bool, true, ◌&&◌, ◌||◌, not}
use mathlib.Core.List.{List, [], ◌∷◌, ◌++◌, append-nil}
use native.Mathlib.Omega.{arith}
use native.Mathlib.Numerals.{add-one}
use lib.Dec.{eqb}
use lib.ListN.{length, get_or, set, replicate}
use lib.Seq.{append_snoc}
use Rattle.sets.specs.Bit.{has, set_of, lowest}
use Rattle.sets.specs.Lists.{places}
use Rattle.rule.specs.Assignment.{option, fits, some_list, choose, assignment}
use Rattle.rule.proofs.Order.{Listed, listed, some-make, choose-passes}
use Rattle.rule.proofs.Completion as R
use Rattle.rule.proofs.Completion.{option-at, snoc-length}
use Rattle.round.specs.Reports.{reports}
use Rattle.sets.proofs.Filling.{Filled, fill_start, fill-next, fill-places}
use Rattle.round.proofs.Reporting.{reports-length}
use Rattle.assignment.specs.Choice.{completed, next_option, Begins, Completes}
use Rattle.assignment.specs.Search.{Remaining}
use Rattle.assignment.specs.Turn.{Opens, Demanded, Turn}
use Rattle.assignment.proofs.Opening.{opens-all, opens-next}
use Rattle.assignment.proofs.Choosing.{begins-none, begins-of, completes-make}
use Rattle.assignment.proofs.Places.{remain-all, remain-next}

-- the options so far fill the first b places; x completes them, they begin the names, and `later` has the bidders who remain
pub record Going (n : ℕ) (sets : List ℕ) (nulls above : ℕ) (out x : List ℕ) (b opens later : ℕ) : Type 0 where
  pub most : n ≤ 64
  pub short : b ≤ n
  pub filled : Filled 64 (λ k. get_or (assignment 32 above (reports n sets nulls)) k 0) b out
  pub ys : List ℕ
  pub count : length ys ≡ b
  pub begun : Begins n sets nulls above ys
  pub open_places : Opens ys opens
  pub size : length x ≡ 64
  pub rest : Remaining later b n
  pub completes : Completes n sets nulls above ys x
  pub possible : completed n sets nulls above ys ≡ true
  pub names : assignment 32 above (reports n sets nulls) ≡ ys ++ choose 32 (n - b) (λ xs. fits 32 above (reports n sets nulls) (ys ++ xs))

module _ (n : ℕ) (sets : List ℕ) (nulls above : ℕ) where
  abbrev fit : List ℕ → Bool
  fit = fits 32 above (reports n sets nulls)

  pub going_start : (x : List ℕ) → n ≤ 64 → length x ≡ 64 → Completes n sets nulls above [] x → (later : ℕ) → later ≡ set_of n (λ j. true) → Going n sets nulls above (replicate 64 0) x 0 8589934591 later
  unfolding assignment
  going_start x l long c later el =
      record {
        most = l;
        short = omega arith;
        filled = fill_start 64 _;
        ys = [];
        count = refl;
        begun = begins-none n sets nulls above;
        open_places = opens-all;
        size = long;
        rest = remain-all n later el;
        completes = c;
        possible = completes-make n sets nulls above [] (omega arith) (begins-none n sets nulls above) (λ b. get_or x b 0) c;
        names = ap (λ (k : ℕ). choose 32 k fit) (all (reports-length n sets nulls));
      }
    where
      all : length (reports n sets nulls) ≡ n → length (reports n sets nulls) ≡ n - 0
      all q = omega arith

  -- the next bidder's option is the rule's
  next-is : (ys : List ℕ) (j : ℕ) → length ys + suc j ≡ n → next_option n sets nulls above ys ≡ R.next_option 32 j fit ys
  unfolding next_option completed
  next-is ys j e = ap (λ (g : ℕ → Bool). lowest 32 g) (fun_ext at)
    where
      at : (i : ℕ) → some_list 32 (n - length (ys ++ (i ∷ []))) (λ xs. fit (ys ++ (i ∷ []) ++ xs)) ≡ some_list 32 j (λ xs. fit (ys ++ i ∷ xs))
      at i =
          let q : n - length (ys ++ (i ∷ [])) ≡ j = omega (arith, e, snoc-length ys i) in
          ap (λ (k : ℕ). some_list 32 k (λ xs. fit (ys ++ (i ∷ []) ++ xs))) q ∙ ap (λ (g : List ℕ → Bool). some_list 32 j g) (fun_ext (λ xs. ap fit (append_snoc ys i xs)))

  -- it begins what can be completed
  module _ (ys : List ℕ) (j : ℕ) (e : length ys + suc j ≡ n) (c : completed n sets nulls above ys ≡ true) where
    next-names : choose 32 (suc j) (λ xs. fit (ys ++ xs)) ≡ next_option n sets nulls above ys ∷ choose 32 j (λ xs. fit (ys ++ (next_option n sets nulls above ys ∷ []) ++ xs))
    next-names = R.choose-next 32 j fit ys ∙ ap (λ (y : ℕ). y ∷ choose 32 j (λ xs. fit (ys ++ (y ∷ []) ++ xs))) (sym (next-is ys j e))

    next-possible : completed n sets nulls above (ys ++ (next_option n sets nulls above ys ∷ [])) ≡ true
    unfolding completed
    next-possible = go (subst (λ (zs : List ℕ). Listed 32 (suc j) zs × (fit (ys ++ zs) ≡ true)) next-names (choose-passes 32 (suc j) (λ xs. fit (ys ++ xs)) some))
      where
        some : some_list 32 (suc j) (λ xs. fit (ys ++ xs)) ≡ true
        some = let q : suc j ≡ n - length ys = omega (arith, e) in ap (λ (k : ℕ). some_list 32 k (λ xs. fit (ys ++ xs))) q ∙ c

        tail : (y : ℕ) (zs : List ℕ) → Listed 32 (suc j) (y ∷ zs) → Listed 32 j zs
        tail y zs (listed z l h) = h

        go : {y : ℕ} {zs : List ℕ} → Listed 32 (suc j) (y ∷ zs) × (fit (ys ++ y ∷ zs) ≡ true) → some_list 32 (n - length (ys ++ (y ∷ []))) (λ xs. fit (ys ++ (y ∷ []) ++ xs)) ≡ true
        go {y} {zs} w =
            let q : n - length (ys ++ (y ∷ [])) ≡ j = omega (arith, e, snoc-length ys y) in
            ap (λ (k : ℕ). some_list 32 k (λ xs. fit (ys ++ (y ∷ []) ++ xs))) q
            ∙ some-make 32 j (λ xs. fit (ys ++ (y ∷ []) ++ xs)) zs (tail y zs w.0) (ap fit (append_snoc ys y zs) ∙ w.1)

module _ {n : ℕ} {sets : List ℕ} {nulls above : ℕ} {out x : List ℕ} {b opens later : ℕ} (g : Going n sets nulls above out x b opens later) where
  abbrev passes : List ℕ → Bool
  passes = fits 32 above (reports n sets nulls)

  -- where the loop ends
  pub going_end : n ≤ b → out ≡ places 64 (assignment 32 above (reports n sets nulls))
  going_end l = fill-places 64 (assignment 32 above (reports n sets nulls)) b out g.filled (omega (arith, ap length all, g.count))
    where
      all : assignment 32 above (reports n sets nulls) ≡ g.ys
      all =
          let z : n - b ≡ 0 = omega arith in
          let end : g.ys ++ choose 32 0 (λ xs. passes (g.ys ++ xs)) ≡ g.ys = unfold choose in append-nil g.ys in
          g.names ∙ ap (λ (k : ℕ). g.ys ++ choose 32 k (λ xs. passes (g.ys ++ xs))) z ∙ end

  module _ (lb : b < n) (after : ℕ) (ea : after ≡ set_of 64 (λ j. has later j && not (eqb j (b + 1)))) where
    -- what the next bidder's turn starts from
    pub going-turn : {w who : List ℕ} → Demanded n sets nulls w who → Turn w who x above opens after b n
    going-turn d =
        record {
          sets = sets;
          nulls = nulls;
          ys = g.ys;
          count = g.count;
          more = lb;
          most = g.most;
          begun = g.begun;
          open_places = g.open_places;
          size = g.size;
          demands = d;
          rest = remain-next g.rest g.most after ea;
          completes = g.completes;
        }

    going_on : (i : ℕ) → i ≡ next_option n sets nulls above g.ys → (y : List ℕ) → length y ≡ 64 → Completes n sets nulls above (g.ys ++ (i ∷ [])) y
        → (shut : ℕ) → shut ≡ set_of 64 (λ j. has opens j && not (eqb j (i + 1))) → (next : ℕ) → next ≡ set_of 64 (λ j. has shut j || eqb j 1) → Going n sets nulls above (set out b i) y (b + 1) next after
    going_on i ex y long done shut es next en =
        record {
          most = g.most;
          short = omega arith;
          filled = fill-next 64 _ b out i g.filled (omega (arith, lb, g.most)) here;
          ys = g.ys ++ (i ∷ []);
          count = snoc-length g.ys i ∙ ap suc g.count ∙ sym (add-one b);
          begun = begins-of n sets nulls above (g.ys ++ (i ∷ [])) (omega (arith, snoc-length g.ys i, g.count)) possible;
          open_places = opens-next g.open_places i shut es next en;
          size = long;
          rest = remain-next g.rest g.most after ea;
          completes = done;
          possible = possible;
          names = names;
        }
      where
        split : length g.ys + suc (n - suc b) ≡ n
        split = omega (arith, g.count)

        possible : completed n sets nulls above (g.ys ++ (i ∷ [])) ≡ true
        possible = ap (λ (y : ℕ). completed n sets nulls above (g.ys ++ (y ∷ []))) ex ∙ next-possible n sets nulls above g.ys (n - suc b) split g.possible

        tail : List ℕ
        tail = choose 32 (n - suc b) (λ xs. passes (g.ys ++ (i ∷ []) ++ xs))

        -- the names, with the option at place b
        begin : assignment 32 above (reports n sets nulls) ≡ g.ys ++ i ∷ tail
        begin =
            let one : n - b ≡ suc (n - suc b) = omega arith in
            g.names
            ∙ ap (λ (k : ℕ). g.ys ++ choose 32 k (λ xs. passes (g.ys ++ xs))) one
            ∙ ap (λ (zs : List ℕ). g.ys ++ zs) (next-names n sets nulls above g.ys (n - suc b) split g.possible)
            ∙ ap (λ (y : ℕ). g.ys ++ y ∷ choose 32 (n - suc b) (λ xs. passes (g.ys ++ (y ∷ []) ++ xs))) (sym ex)

        here : i ≡ get_or (assignment 32 above (reports n sets nulls)) b 0
        here =
            let at : get_or (g.ys ++ i ∷ tail) (length g.ys) 0 ≡ i = unfold option in option-at g.ys tail i in
            sym at ∙ ap (λ (k : ℕ). get_or (g.ys ++ i ∷ tail) k 0) g.count ∙ sym (ap (λ (zs : List ℕ). get_or zs b 0) begin)

        names : assignment 32 above (reports n sets nulls) ≡ g.ys ++ (i ∷ []) ++ choose 32 (n - (b + 1)) (λ xs. passes (g.ys ++ (i ∷ []) ++ xs))
        names =
            let two : n - suc b ≡ n - (b + 1) = omega arith in
            begin ∙ sym (append_snoc g.ys i tail) ∙ ap (λ (k : ℕ). g.ys ++ (i ∷ []) ++ choose 32 k (λ xs. passes (g.ys ++ (i ∷ []) ++ xs))) two

    -- the next bidder has its option
    pub going_next : {w who : List ℕ} → Demanded n sets nulls w who → (i : ℕ) (y : List ℕ) → length y ≡ 64
        → ((t : Turn w who x above opens after b n) → (i ≡ next_option n t.sets t.nulls above t.ys) × Completes n t.sets t.nulls above (t.ys ++ (i ∷ [])) y)
        → (shut : ℕ) → shut ≡ set_of 64 (λ j. has opens j && not (eqb j (i + 1))) → (next : ℕ) → next ≡ set_of 64 (λ j. has shut j || eqb j 1) → Going n sets nulls above (set out b i) y (b + 1) next after
    unfolding going-turn
    going_next d i y long h shut es next en = let v = h (going-turn d) in going_on i v.0 y long v.1 shut es next en
