-- The bytes of an answer, put one after the other. Assumes nothing.
use Prim.Native.Nat.{ℕ, zero, suc, ◌+◌, ◌*◌, ◌≤◌}
use mathlib.Core.Path.{◌≡◌, refl, sym, ap, ◌∙◌, subst}
use mathlib.Core.Bool.{Bool, cond}
use mathlib.Core.List.{List, ◌++◌}
use native.Mathlib.Omega.{arith}
use lib.Dec.{leb, ltb}
use lib.ListN.{length, set, length-append}
use lib.Seq.{sets, length-sets}
use Rattle.rule.specs.Round.{raised, lowered, closed}
use Rattle.digits.specs.Digits.{hex}
use Rattle.lines.specs.Lines.{number_text, number_line, amounts_line, has_room}
use Rattle.lines.proofs.Stores.{sets_then}
use Rattle.lines.proofs.Numbered.{text-long, number-long, two-put, refusal-put}
use Rattle.digits.proofs.Digits.{hex-length}
use Rattle.digits.proofs.Room.{written}
use Rattle.lines.proofs.Lengths.{line-length}
use Rattle.lines.proofs.Written.{room-priced}
use Rattle.live.specs.Calls.{Ending, gives, refused}
use Rattle.live.specs.declared.Auction.{Auction}
use Rattle.live.specs.declared.Reply.{Reply}
use Rattle.console.specs.Answers.{prices_text, round_text, Said, opens, replies, ends}
use Rattle.console.specs.Steps.{longest_answer, Puts}
use Rattle.console.specs.declared.Answered.{Answered}

-- ---- a number

pub reply-put : (o : Reply) (out after : List ℕ) → longest_answer ≤ length out → after ≡ cond (ltb (length out) 3) out (sets out 0 (number_line o.number))
    → Puts (replies o) out after (record { length = 3; next = o.next })
unfolding replies
reply-put o out after l e =
    record { next = refl; counted = sym (number-long o.number); small = omega (arith, number-long o.number); put = refusal-put out after o.number (omega arith) e }

-- ---- prices

pub prices-long : (r : Auction) → length (prices_text r) ≡ 4 * r.items + 1
unfolding prices_text amounts_line
prices-long r = line-length r.items 4 r.prices

pub prices-put : (r : Auction) (out after : List ℕ) (at : ℕ) → r.items ≤ 32 → at + 129 ≤ length out
    → after ≡ cond (has_room r.items at (length out)) (sets out at (amounts_line r.items r.prices)) out → after ≡ sets out at (prices_text r)
unfolding prices_text
prices-put r out after at l h e =
    e ∙ ap (λ (b : Bool). cond b (sets out at (amounts_line r.items r.prices)) out) (room-priced r.items at (length out) l (omega arith))

-- ---- an opening

module _ (r : Auction) (o : Reply) (out after : List ℕ) (a : Answered) where
  -- by the number
  abbrev by : ℕ → Said
  by x = elim x [ zero ↦ record { bytes = number_text 0 ++ prices_text o.next; next = o.next } | suc j ↦ record { bytes = number_line (suc j); next = r } ]

  opens_as : o.number ≡ 0 → opens r o ≡ record { bytes = number_text 0 ++ prices_text o.next; next = o.next }
  unfolding opens
  opens_as e = ap by e

  opens_not : (x : ℕ) → x ≡ o.number → (x ≡ 0 → ⊥) → replies (record { number = x; next = r }) ≡ opens r o
  unfolding opens replies
  opens_not zero e n = absurd (n refl)
  opens_not (suc j) e n = ap by e

  -- an opening that is turned down
  pub open_kept : (o.number ≡ 0 → ⊥) → Puts (replies (record { number = o.number; next = r })) out after a → Puts (opens r o) out after a
  open_kept ne p = subst (λ (t : Said). Puts t out after a) (opens_not o.number refl ne) p

  -- and one that is not
  pub open-put : (mid : List ℕ) → o.number ≡ 0 → o.next.items ≤ 32 → longest_answer ≤ length out → mid ≡ cond (ltb (length out) 2) out (sets out 0 (number_text 0))
      → a ≡ record { length = 3 + 4 * o.next.items; next = o.next } → after ≡ sets mid 2 (prices_text o.next) → Puts (opens r o) out after a
  open-put mid z l room two q f =
      let e = two-put out mid 0 (omega arith) two in
      let long : length (number_text 0 ++ prices_text o.next) ≡ 3 + 4 * o.next.items =
      length-append (number_text 0) (prices_text o.next) ∙ (let p = prices-long o.next in omega (arith, text-long 0, p)) in
      subst (λ (t : Said). Puts t out after a) (sym (opens_as z))
      (record {
        next = ap (λ (b : Answered). b.next) q;
        counted = ap (λ (b : Answered). b.length) q ∙ sym long;
        small = omega (arith, long, l);
        put = f ∙ ap (λ (x : List ℕ). sets x 2 (prices_text o.next)) e ∙ sets_then out 0 2 (number_text 0) (prices_text o.next) (omega (arith, text-long 0));
      })

-- ---- a round

module _ (out a b after : List ℕ) (kind set : ℕ) (long : 12 ≤ length out) (two : a ≡ cond (ltb (length out) 2) out (sets out 0 (number_text 0))) where
  e : a ≡ sets out 0 (number_text 0)
  e = two-put out a 0 (omega arith) two

  same-a : length a ≡ length out
  same-a = ap length e ∙ length-sets out 0 (number_text 0)

  module _ (f : b ≡ cond (leb 4 (length a)) (sets a 2 (hex 2 kind)) a) where
    put_b : b ≡ sets a 2 (hex 2 kind)
    put_b = written a b 2 2 kind (omega (arith, same-a)) f

    same-b : length b ≡ length out
    same-b = ap length put_b ∙ length-sets a 2 (hex 2 kind) ∙ same-a

    pub round-put : after ≡ cond (leb 12 (length b)) (sets b 4 (hex 8 set)) b → after ≡ sets out 0 (number_text 0 ++ (hex 2 kind ++ hex 8 set))
    round-put g =
        written b after 4 8 set (omega (arith, same-b)) g
        ∙ ap (λ (l : List ℕ). sets l 4 (hex 8 set)) put_b
        ∙ sets_then a 2 4 (hex 2 kind) (hex 8 set) (omega (arith, hex-length 2 kind))
        ∙ ap (λ (l : List ℕ). sets l 2 (hex 2 kind ++ hex 8 set)) e
        ∙ sets_then out 0 2 (number_text 0) (hex 2 kind ++ hex 8 set) (omega (arith, text-long 0))

-- the answer to an end that was not turned down
abbrev pub moved_bytes : ℕ → ℕ → Auction → Said
moved_bytes kind set next = record { bytes = number_text 0 ++ (hex 2 kind ++ hex 8 set) ++ prices_text next; next = next }

front_long : (kind set : ℕ) → length (number_text 0 ++ (hex 2 kind ++ hex 8 set)) ≡ 12
front_long kind set =
    length-append (number_text 0) (hex 2 kind ++ hex 8 set) ∙ (let l = length-append (hex 2 kind) (hex 8 set) in omega (arith, text-long 0, l, hex-length 2 kind, hex-length 8 set))

pub move-put : (kind set : ℕ) (next : Auction) (out mid after : List ℕ) (a : Answered) → next.items ≤ 32 → mid ≡ sets out 0 (number_text 0 ++ (hex 2 kind ++ hex 8 set))
    → a ≡ record { length = 13 + 4 * next.items; next = next } → after ≡ sets mid 12 (prices_text next) → Puts (moved_bytes kind set next) out after a
move-put kind set next out mid after a l e q f =
    let front : List ℕ = number_text 0 ++ (hex 2 kind ++ hex 8 set) in
    let long : length (front ++ prices_text next) ≡ 13 + 4 * next.items = length-append front (prices_text next) ∙ (let p = prices-long next in omega (arith, front_long kind set, p)) in
    record {
      next = ap (λ (b : Answered). b.next) q;
      counted = ap (λ (b : Answered). b.length) q ∙ sym long;
      small = omega (arith, long, l);
      put = f ∙ ap (λ (x : List ℕ). sets x 12 (prices_text next)) e ∙ sets_then out 0 12 front (prices_text next) (omega (arith, front_long kind set));
    }

-- what an end answers, round by round
module _ (next : Auction) (out after : List ℕ) (a : Answered) where
  pub raised-put : (set : ℕ) → Puts (moved_bytes 1 set next) out after a → Puts (ends (gives (raised set)) next) out after a
  unfolding ends round_text
  raised-put set p = record { next = p.next; counted = p.counted; small = p.small; put = p.put }

  pub lowered-put : (set : ℕ) → Puts (moved_bytes 2 set next) out after a → Puts (ends (gives (lowered set)) next) out after a
  unfolding ends round_text
  lowered-put set p = record { next = p.next; counted = p.counted; small = p.small; put = p.put }

  pub closed-put : Puts (moved_bytes 3 0 next) out after a → Puts (ends (gives closed) next) out after a
  unfolding ends round_text
  closed-put p = record { next = p.next; counted = p.counted; small = p.small; put = p.put }

  pub refused-put : (x : ℕ) → Puts (replies (record { number = x; next = next })) out after a → Puts (ends (refused x) next) out after a
  unfolding ends replies
  refused-put x p = record { next = p.next; counted = p.counted; small = p.small; put = p.put }

  pub by-ending : (e f : Ending) → e ≡ f → Puts (ends f next) out after a → Puts (ends e next) out after a
  by-ending e f q p = subst (λ (x : Ending). Puts (ends x next) out after a) (sym q) p
