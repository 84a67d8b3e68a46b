-- Request #101, from the theorems of `rule`, `reasons` and `live`. Assumes nothing.
use Prim.Native.Nat.{ℕ, ◌+◌, ◌<◌}
use mathlib.Core.Path.{◌≡◌, refl, ap, ◌∙◌}
use mathlib.Core.Bool.{Bool, cond}
use mathlib.Core.List.{List, []}
use lib.ListN.{length}
use borrow.Author.Tests.{le-ltb, lt-ltb}
use Rattle.rule.specs.Round.{raised, lowered, path}
use Rattle.rule.specs.Closing.{demands_at, excess_demand_at, excess_supply_at}
use Rattle.rule.specs.Reasons.{bidders_with, reason_of, reason_at, round_count, Reason, Justified}
use Rattle.rule.proofs.Closing.{closing}
use Rattle.rule.proofs.Reasons as rounds
use Rattle.reasons.specs.Sheets.{reasons_in, fitting, answer_of}
use Rattle.reasons.proofs.Answers as answers
use Rattle.reasons.proofs.ReadBack as back
use Rattle.live.proofs.Reasons as live
use Rattle.promises.specs.Reasons.{Right, Line, Request101}
use Rattle.promises.proofs.AtClose.{at_close}

right : (m n : ℕ) (r : Reason) → Justified m n r → Right m n r
right m n r j = (j.raised_more, j.lowered_no_more)

says_one : (bytes : List ℕ) (k : ℕ) (r q : Reason) → Line bytes k r → Line bytes k q → r ≡ q
says_one bytes k r q (_, a, b, c, _) (_, d, e, f, _) =
    let kind : r.kind ≡ q.kind = cc in
    let items : r.items ≡ q.items = cc in
    let bidders : r.bidders ≡ q.bidders = cc in
    ap (λ (x : ℕ). record { kind = x; items = r.items; bidders = r.bidders }) kind
    ∙ ap (λ (x : ℕ). record { kind = q.kind; items = x; bidders = r.bidders }) items
    ∙ ap (λ (x : ℕ). record { kind = q.kind; items = q.items; bidders = x }) bidders

pub request101 : Request101
unfolding bidders_with reason_of round_count fitting answer_of
request101 =
    record {
      bidders_are = λ ds f. refl;
      of_a_rise = λ m ds x. refl;
      of_a_fall = λ m ds x. refl;
      rises = λ s e. at_close s (closing s e) (λ u d p. (k : ℕ) → k < u → reason_at s k ≡ reason_of s.items (demands_at s (path s k).prices) (raised (excess_demand_at s (path s k).prices)))
          (rounds.rise-reason s (closing s e));
      falls = λ s e. at_close s (closing s e)
          (λ u d p. (k : ℕ) → k < d → reason_at s (u + k) ≡ reason_of s.items (demands_at s (path s (u + k)).prices) (lowered (excess_supply_at s (path s (u + k)).prices)))
          (rounds.fall-reason s (closing s e));
      no_more = λ s e. at_close s (closing s e) (λ u d p. (k : ℕ) → reason_at s (u + d + k) ≡ record { kind = 0; items = 0; bidders = 0 }) (rounds.no-reason s (closing s e));
      lines = λ bytes e k l. let x = back.read-accepted bytes e k l in (x.number_is, x.kind, x.items, x.bidders, x.ends);
      says_one = says_one;
      as_many = answers.accepted-lines;
      turned-down = answers.by-line;
      no_room = λ bytes room l. ap (λ (b : Bool). cond b [] (reasons_in bytes)) (lt-ltb room (length (reasons_in bytes)) l);
      room_for_it = λ bytes room l. ap (λ (b : Bool). cond b [] (reasons_in bytes)) (le-ltb room (length (reasons_in bytes)) l);
      room = answers.whole;
      past = answers.same_answer;
      right = λ s k. right _ _ _ (rounds.path-justified s k);
      right_falling = λ s k. right _ _ _ (rounds.falling-path-justified s k);
      right_live = λ r ts x e. right _ _ _ (live.moved-justified r ts x e);
    }
