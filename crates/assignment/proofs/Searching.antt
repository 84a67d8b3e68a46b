-- How far a search has come, turn after turn: which places are seen and done, and which bidders have taken their step. THEORY.md 3.2. Assumes nothing.
use Prim.Native.Nat.{ℕ, zero, suc, ◌+◌, ◌-◌, ◌*◌, ◌^◌, ◌≤◌, ◌<◌}
use mathlib.Core.Path.{◌≡◌, refl, sym, ap, ◌∙◌, subst}
use mathlib.Core.Bool.{Bool, true, false, ◌&&◌, ◌||◌, not}
use mathlib.Core.List.{List}
use mathlib.Core.Logic.{◌⊎◌, inl, inr}
use native.Mathlib.Omega.{arith}
use native.Mathlib.Nat.{lt_of_lt_of_le}
use lib.Pow.{pow-lt, pow_mono}
use lib.Bits.{bit_or}
use lib.Dec.{eqb}
use lib.ListN.{get_or, replicate}
use Rattle.sets.specs.Bit.{is_set, has, set_of, lowest, size}
use Rattle.sets.proofs.Counting.{lt-or-le, not-both, is_false}
use Rattle.sets.proofs.Members.{is_set-empty, is_set-ext, is_set-above, is_set-set_of, set_of-lt}
use Rattle.sets.proofs.Taking.{member-lt, lowest-of, size_less}
use Rattle.assignment.specs.Search.{goes_on, Step, Tree, Sub, Expanded, Grown, Moves, Pooled, Start}
use Rattle.assignment.proofs.Places.{with-use, with-old, with-new, both-use, both-make, other-use, other-make, size_mono, size-le, goes-null}
use Rattle.assignment.proofs.Growing.{or-old, or_new, tree-start, tree-later, tree-grows, tree-wide}

-- a set of places alone fits
below-power : (n : ℕ) → n < 2 ^ n
below-power zero = omega arith
below-power (suc n) = let more : 2 ^ n < 2 ^ suc n = pow-lt (omega arith) in omega (arith, below-power n)

places-fit : (s : ℕ) → ((p : ℕ) → is_set s p ≡ true → p < 33) → s < 2 ^ 64
unfolding has
places-fit s low = omega (arith, same, few)
  where
    all : ℕ
    all = set_of 33 (has s)

    few : all < 2 ^ 33
    few = set_of-lt 33 (has s)

    at : (p : ℕ) → (p < 33) ⊎ (33 ≤ p) → is_set s p ≡ is_set all p
    at p (inl l) = sym (is_set-set_of 33 (has s) p l)
    at p (inr l) = is_false (is_set s p) (λ o. let no = low p o in omega arith) ∙ sym (is_set-above 33 all p few l)

    same : s ≡ all
    same =
        let more : 2 ^ s ≤ 2 ^ (s + 33) = pow_mono (omega arith) in
        let wide : 2 ^ 33 ≤ 2 ^ (s + 33) = pow_mono {i = 33} (omega arith) in
        is_set-ext (s + 33) s all (lt_of_lt_of_le (below-power s) more) (lt_of_lt_of_le few wide) (λ p l. at p (lt-or-le p 33))

-- the next place: the lowest that is seen and not done
next_place : (done seen : ℕ) → done < 2 ^ 64 → seen < 2 ^ 64 → Sub done seen → (done ≡ seen → ⊥) → (fresh : ℕ) → fresh ≡ set_of 64 (λ j. has seen j && not (has done j))
    → (l : ℕ) → l ≡ lowest 64 (has fresh) → (0 < l) × (is_set seen (l - 1) ≡ true) × (is_set done (l - 1) ≡ false)
next_place done seen ld ls sub ne fresh ef l el =
    let low = lowest-of 64 fresh (member-lt 64 fresh (λ j. has seen j && not (has done j)) ef) some l el in
    let v = other-use seen done fresh ef (l - 1) low.2 in
    (low.0, v.0, v.1)
  where
    some : fresh ≡ 0 → ⊥
    some z = ne (is_set-ext 64 done seen ld ls (λ p l. same p l (is_set done p) refl (is_set seen p) refl))
      where
        same : (p : ℕ) → p < 64 → (c : Bool) → is_set done p ≡ c → (b : Bool) → is_set seen p ≡ b → is_set done p ≡ is_set seen p
        same p l true c b e = c ∙ sym (sub p c)
        same p l false c false e = c ∙ sym e
        same p l false c true e = absurd (not-both (is_set 0 p) (ap (λ (s : ℕ). is_set s p) (sym z) ∙ other-make seen done fresh ef p l e c) (is_set-empty p))

module _ {who x : List ℕ} {spare later k : ℕ} (s : Start who x spare later k) (unpriced : ℕ) where
  -- the tree of a search, from what bidder k has
  abbrev pub Rooted : List ℕ → List ℕ → ℕ → ℕ → Type 0
  Rooted next entered seen top = Tree s.w x s.opens unpriced spare (get_or x k 0) k s.n next entered seen top

  module _ (wish : ℕ) where
    -- the places of `done` are expanded, or the wish is seen, and the later bidders who are not in `left` have taken their step
    pub record Searching (next entered : List ℕ) (done seen left turn : ℕ) : Type 0 where
      pub turns : turn ≤ suc (size 64 done)
      pub within : Sub done seen
      pub expanded : (is_set seen wish ≡ true) ⊎ Expanded s.w x unpriced spare k s.n done seen
      pub still : Sub left later
      pub moved : (b : ℕ) → is_set later b ≡ true → (is_set left b ≡ true) ⊎ (is_set seen (get_or x b 0) ≡ true)
      pub tree : Rooted next entered seen (128 * turn)

    pub search-start : (next entered : List ℕ) → next ≡ replicate 33 0 → entered ≡ replicate 33 0 → (seen : ℕ) → seen ≡ set_of 64 (λ j. has 0 j || eqb j (get_or x k 0 + 1)) → Searching next entered 0 seen later 1
    search-start next entered en ee seen es =
        record {
          turns = omega arith;
          within = λ p o. none p o;
          expanded = inr (record { moves = λ b q kb bn d o. none q o; frees = λ q f z o g. none q o });
          still = λ b o. o;
          moved = λ b o. inl o;
          tree = tree-start s.seated s.more refl next entered en ee seen es;
        }
      where
        none : {A : Type 0} (p : ℕ) → is_set 0 p ≡ true → A
        none p o = absurd (not-both (is_set 0 p) o (is_set-empty p))

module _ {who x : List ℕ} {spare later k : ℕ} {s : Start who x spare later k} {unpriced wish : ℕ} {next entered : List ℕ} {done seen left turn : ℕ} (g : Searching s unpriced wish next entered done seen left turn) where
  pub turn_small : turn ≤ 65
  turn_small = omega (arith, g.turns, size-le 64 done)

  seen-fits : seen < 2 ^ 64
  seen-fits = places-fit seen (λ p o. (g.tree.opened p o).0)

  done-fits : done < 2 ^ 64
  done-fits = places-fit done (λ p o. (g.tree.opened p (g.within p o)).0)

  -- the place of the turn: it is seen, and not done
  pub record Fresh (l : ℕ) : Type 0 where
    pub pos : 0 < l
    pub on : is_set seen (l - 1) ≡ true
    pub off : is_set done (l - 1) ≡ false
    pub small : l - 1 < 33

  pub fresh-place : (done ≡ seen → ⊥) → (fresh : ℕ) → fresh ≡ set_of 64 (λ j. has seen j && not (has done j)) → (l : ℕ) → l ≡ lowest 64 (has fresh) → Fresh l
  fresh-place ne fresh ef l el =
      let next = next_place done seen done-fits seen-fits g.within ne fresh ef l el in
      record { pos = next.0; on = next.1; off = next.2; small = (g.tree.opened (l - 1) next.1).0 }

  -- all that are seen are done
  pub search-end : done ≡ seen → ((is_set seen wish ≡ true) ⊎ Expanded s.w x unpriced spare k s.n seen seen) × Rooted s unpriced next entered seen 65536
  search-end e =
      (subst (λ (d : ℕ). (is_set seen wish ≡ true) ⊎ Expanded s.w x unpriced spare k s.n d seen) e g.expanded, tree-later g.tree (omega (arith, turn_small)))

  -- nothing is left to do once the wish is seen
  pub search-settled : (r : ℕ) → (is_set seen wish ≡ true → r ≡ seen) → (is_set seen wish ≡ false → r ≡ done) → Searching s unpriced wish next entered r seen left turn
  search-settled r yes-seen not_seen = go (is_set seen wish) refl
    where
      all : is_set seen wish ≡ true → Searching s unpriced wish next entered seen seen left turn
      all o =
          record {
            turns = omega (arith, g.turns, size_mono 64 done seen g.within);
            within = λ p h. h;
            expanded = inl o;
            still = g.still;
            moved = g.moved;
            tree = g.tree;
          }

      go : (c : Bool) → is_set seen wish ≡ c → Searching s unpriced wish next entered r seen left turn
      go true e = subst (λ (d : ℕ). Searching s unpriced wish next entered d seen left turn) (sym (yes-seen e)) (all e)
      go false e = subst (λ (d : ℕ). Searching s unpriced wish next entered d seen left turn) (sym (not_seen e)) g

  -- a turn: q is expanded
  module _ (q : ℕ) (on : is_set seen q ≡ true) where
    pub q-small : q < 33
    q-small = (g.tree.opened q on).0

    module _ (movers : ℕ) (em : movers ≡ set_of 64 (λ j. has (get_or who q 0) j && has left j)) where
      -- a mover comes later, and demands q
      mover : (b : ℕ) → is_set movers b ≡ true → (k < b) × (b < s.n) × (is_set (get_or s.w b 0) q ≡ true)
      mover b o =
          let v = both-use (get_or who q 0) left movers em b o in
          let r = s.rest.only b (g.still b v.1) in
          (omega (arith, r.0), r.1, sym (s.asked b q r.1 q-small) ∙ v.0)

      pub mover-small : (b : ℕ) → is_set movers b ≡ true → get_or x b 0 < 33
      mover-small b o = let v = mover b o in s.seated.small b (omega (arith, v.0)) v.1

      module _ {next' entered' next'' entered'' : List ℕ} {pooled after : ℕ} (p : Pooled q unpriced spare (128 * turn) next entered seen next' entered' pooled)
          (swept : (b : ℕ) → is_set movers b ≡ true → is_set after (get_or x b 0) ≡ true) (m : Grown q (Moves x movers turn) next' entered' pooled next'' entered'' after) where
        -- q may not be left, or null is seen with all spare places
        abbrev Spread : Type 0
        Spread = ((is_set unpriced q ≡ false) × (pooled ≡ p.with_null)) ⊎ ((is_set p.with_null 0 ≡ true) × (pooled ≡ bit_or p.with_null spare))

        pooled-old : Spread → Sub seen pooled
        pooled-old (inl v) c o = ap (λ (t : ℕ). is_set t c) v.1 ∙ p.grown.sub c o
        pooled-old (inr v) c o = or-old p.with_null spare pooled v.1 c (p.grown.sub c o)

        after-old : Sub seen after
        after-old c o = m.sub c (pooled-old p.all c o)

        -- null, if q may be left, and then the movers
        null-tree : Rooted s unpriced next' entered' p.with_null (128 * turn + 1)
        unfolding Step
        null-tree =
            tree-grows g.tree on (omega arith) p.grown (λ c v e. (
              omega arith,
              ap (is_set s.opens) e.0 ∙ (s.seated.spares 0 s.seated.null).1,
              ap (goes_on spare) e.0 ∙ goes-null spare ∙ sym e.0,
              omega (arith, e.1),
              omega (arith, e.1),
              inl (omega (arith, e.1), e.0, e.2),
            ))

        pooled-tree : Rooted s unpriced next' entered' pooled (128 * turn + 1)
        pooled-tree = go p.all
          where
            go : Spread → Rooted s unpriced next' entered' pooled (128 * turn + 1)
            go (inl v) = subst (λ (t : ℕ). Rooted s unpriced next' entered' t (128 * turn + 1)) (sym v.1) null-tree
            go (inr v) = tree-wide s.seated null-tree v.0 pooled v.1

        after-tree : Rooted s unpriced next'' entered'' after (128 * (turn + 1))
        unfolding Step
        after-tree =
            tree-grows pooled-tree (pooled-old p.all q on) (omega arith) m (λ c v e. let d = mover e.0 e.1 in (
              omega (arith, e.2, mover-small e.0 e.1),
              ap (is_set s.opens) (sym e.2) ∙ s.seated.opened e.0 (omega (arith, d.0)) d.1,
              ap (goes_on spare) (sym e.2) ∙ s.seated.taken e.0 (omega (arith, d.0)) d.1 ∙ e.2,
              omega (arith, e.3),
              omega (arith, e.3, d.1, s.most),
              inr (e.0, omega (arith, e.3, d.1, s.most), d.0, d.1, e.2, d.2),
            ))

        module _ (off : is_set done q ≡ false) (left' done' : ℕ) (el : left' ≡ set_of 64 (λ j. has left j && not (has movers j)))
            (ed : done' ≡ set_of 64 (λ j. has done j || eqb j (q + 1))) where
          -- a later bidder who demands q is a mover, or has taken its step
          q-moves : (b : ℕ) → k < b → b < s.n → is_set (get_or s.w b 0) q ≡ true → (is_set left b ≡ true) ⊎ (is_set seen (get_or x b 0) ≡ true) → is_set after (get_or x b 0) ≡ true
          q-moves b kb bn d (inl o) = swept b (both-make (get_or who q 0) left movers em b (omega (arith, bn, s.most)) (s.asked b q bn q-small ∙ d) o)
          q-moves b kb bn d (inr o) = after-old (get_or x b 0) o

          q-frees : (f : ℕ) → is_set unpriced q ≡ true → is_set spare f ≡ true → Spread → is_set after f ≡ true
          q-frees f z o (inl v) = absurd (not-both (is_set unpriced q) z v.0)
          q-frees f z o (inr v) = m.sub f (or_new p.with_null spare pooled v.1 f o)

          pub search-next : Searching s unpriced wish next'' entered'' done' after left' (turn + 1)
          search-next =
              record {
                turns = omega (arith, g.turns, size_less 64 done done' (with-old done q done' ed done-fits) q (omega (arith, q-small)) (with-new done q done' ed (omega (arith, q-small))) off);
                within = λ c o. within c (with-use done q done' ed c o);
                expanded = expanded g.expanded;
                still = λ b o. g.still b (other-use left movers left' el b o).0;
                moved = λ b o. moved b (g.moved b o) (s.rest.only b o).1 (is_set movers b) refl;
                tree = after-tree;
              }
            where
              within : (c : ℕ) → (is_set done c ≡ true) ⊎ (c ≡ q) → is_set after c ≡ true
              within c (inl o) = after-old c (g.within c o)
              within c (inr e) = ap (is_set after) e ∙ after-old q on

              expanded : (is_set seen wish ≡ true) ⊎ Expanded s.w x unpriced spare k s.n done seen → (is_set after wish ≡ true) ⊎ Expanded s.w x unpriced spare k s.n done' after
              expanded (inl o) = inl (after-old wish o)
              expanded (inr all) =
                  inr (record { moves = λ b c kb bn d o. moves b c kb bn d (with-use done q done' ed c o); frees = λ c f z o h. frees c f z h (with-use done q done' ed c o) })
                where
                  moves : (b c : ℕ) → k < b → b < s.n → is_set (get_or s.w b 0) c ≡ true → (is_set done c ≡ true) ⊎ (c ≡ q) → is_set after (get_or x b 0) ≡ true
                  moves b c kb bn d (inl o) = after-old (get_or x b 0) (all.moves b c kb bn d o)
                  moves b c kb bn d (inr e) = q-moves b kb bn (ap (is_set (get_or s.w b 0)) (sym e) ∙ d) (g.moved b (s.rest.all b (omega arith) bn))

                  frees : (c f : ℕ) → is_set unpriced c ≡ true → is_set spare f ≡ true → (is_set done c ≡ true) ⊎ (c ≡ q) → is_set after f ≡ true
                  frees c f z h (inl o) = after-old f (all.frees c f z o h)
                  frees c f z h (inr e) = q-frees f (ap (is_set unpriced) (sym e) ∙ z) h p.all

              moved : (b : ℕ) → (is_set left b ≡ true) ⊎ (is_set seen (get_or x b 0) ≡ true) → b < s.n → (c : Bool) → is_set movers b ≡ c → (is_set left' b ≡ true) ⊎ (is_set after (get_or x b 0) ≡ true)
              moved b (inr o) bn c e = inr (after-old (get_or x b 0) o)
              moved b (inl o) bn true e = inr (swept b e)
              moved b (inl o) bn false e = inl (other-make left movers left' el b (omega (arith, bn, s.most)) o e)
