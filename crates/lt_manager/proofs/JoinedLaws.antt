-- The joins of an ask, one after another.
use Rattle.std.proofs.Common.{◌≡◌, ℕ, ◌+◌, ◌<◌, ◌≤◌, List, [], ◌∷◌, ◌++◌, Result, Ok, Err, refl, sym, ap, ◌∙◌, subst, arith, length-append}
use Rattle.lt_seq.specs.declared.event.Deed.{Deed}
use Rattle.lt_seq.specs.declared.event.Deed.TheVariants.{Join}
use Rattle.lt_seq.specs.declared.event.Event.{Event}
use Rattle.lt_seq.specs.declared.event.Receipt.{Receipt}
use Rattle.lt_seq.specs.declared.fault.Fault.{Fault}
use Rattle.lt_rows.specs.declared.row_plan.RowPlan.{RowPlan}
use Rattle.lt_seq.specs.Table.{Setting, used}
use Rattle.lt_seq.specs.History.{after}
use Rattle.lt_rows.specs.Plan.{setting_of}
use Rattle.lt_seq.specs.SeqCalls.{HasJoined, JoinsStop}
use Rattle.lt_seq.specs.Yard.{PassView, Happens, FaultAt, Answers, Caused, AskAnswers, AskAnswered, JoinsOne}
use Rattle.lt_seq.proofs.YardLaws.{ask_answers_of, asks_midway, has_joined_none, joined_more}
use Rattle.lt_locktree.specs.declared.locktree.Locktree.{Locktree}
use Rattle.lt_locktree.specs.declared.tree_pass.TreePass.{TreePass}
use Rattle.lt_locktree.specs.Calls.{sees, StaysOf}
use Rattle.lt_manager.specs.Views.{Kept, view_of}
use Rattle.lt_manager.specs.Behind.{AnswersBehind, JoinedBehind, StopsBehind, AsksBehind, AsksBehindAll}

-- a pass stays of its table through two calls
pub stays_then : (t : Locktree) (p q r : TreePass) → StaysOf t p q → StaysOf t q r → StaysOf t p r
stays_then t p q r first second =
    (second.0, (second.1.0 ∙ first.1.0, second.1.1 ∙ first.1.1, second.1.2 ∙ first.1.2, second.1.3 ∙ first.1.3))

-- one tree more is joined
one_more : (setting : Setting) (bar : ℕ) (old joined new : PassView) (txn trees : ℕ) (r : Receipt)
    → HasJoined setting bar old joined txn trees → (join : Happens setting joined new txn (Join trees 0 0) r)
    → (trees ≡ 0 → bar ≤ used (after setting join.seen)) → HasJoined setting bar old new txn (trees + 1)
one_more setting bar old joined new txn trees r has join reached = record {
  joins = has.joins ++ r ∷ [];
  count = omega (arith, has.count, length-append has.joins (r ∷ []));
  chain =
      joined_more setting bar old joined new txn 0 has.joins r has.chain
      (subst (λ (n : ℕ). JoinsOne setting bar joined txn n r (λ next. new ≡ next)) (omega (arith, has.count)) (record {
        next = new;
        join = join;
        reached = reached;
        others = refl;
      }));
}

-- p has looked
module _ (p : Kept) (new : PassView) (txn : ℕ) where
  abbrev setting : Setting
  setting = setting_of (sees p.pass).plan

  -- the first join stands behind that look
  pub joined_first : (r : Receipt) → AnswersBehind p new txn (Join 0 0 0) (Ok r) → JoinedBehind p new txn 1
  joined_first r behind bar full old watches =
      let first = behind old watches in
      one_more setting bar old old new txn 0 r (has_joined_none setting bar old txn) first.0
      (λ none. subst (λ (es : List Event). bar ≤ used (after setting es)) (sym first.1) full)

  pub stops_first : (trees : ℕ) (fault : Fault) → 0 < trees → AnswersBehind p new txn (Join 0 0 0) (Err fault)
      → StopsBehind p new txn trees fault
  stops_first trees fault some behind bar full old watches =
      record { joins = []; joined = old; count = some; chain = refl; at = (behind old watches).0 }

  -- and each further one behind its own
  module _ (q : Kept) (tree : ℕ) (plan : (sees q.pass).plan ≡ (sees p.pass).plan) (joined : JoinedBehind p (view_of q) txn tree) where
    pub joined_next : (r : Receipt) → 1 ≤ tree → Answers (setting_of (sees q.pass).plan) (view_of q) new txn (Join tree 0 0) (Ok r)
        → JoinedBehind p new txn (tree + 1)
    joined_next r further answers bar full old watches =
        let join : Happens setting (view_of q) new txn (Join tree 0 0) r =
        subst (λ (k : RowPlan). Happens (setting_of k) (view_of q) new txn (Join tree 0 0) r) plan answers.answer in
        one_more setting bar old (view_of q) new txn tree r (joined bar full old watches) join
        (λ none. absurd (omega (arith, further, none)))

    pub stops_next : (trees : ℕ) (fault : Fault) → tree < trees
        → Answers (setting_of (sees q.pass).plan) (view_of q) new txn (Join tree 0 0) (Err fault) → StopsBehind p new txn trees fault
    stops_next trees fault few answers bar full old watches =
        let has : HasJoined setting bar old (view_of q) txn tree = joined bar full old watches in
        record {
          joins = has.joins;
          joined = view_of q;
          count = omega (arith, has.count, few);
          chain = has.chain;
          at = subst (λ (k : RowPlan). FaultAt (setting_of k) (view_of q) new (Caused (setting_of k) (view_of q) new fault)) plan answers.answer;
        }

  -- the ask behind all of them, or none where they stop
  module _ (bar trees : ℕ) (deed : Deed) (all : trees ≡ setting.plan.trees) (full : bar ≤ used (after setting (sees p.pass).front)) where
    pub joins_then_ask : (q : Kept) (result : Result Receipt Fault) → (sees q.pass).plan ≡ (sees p.pass).plan
        → JoinedBehind p (view_of q) txn trees → AsksBehindAll q new bar txn deed result → AsksBehind p new bar txn deed result
    joins_then_ask q result plan joined asks old watches =
        let has : HasJoined setting bar old (view_of q) txn trees = joined bar full old watches in
        ask_answers_of setting bar old (view_of q) new txn deed result has.joins (omega (arith, has.count, all)) has.chain
        (subst (λ (k : RowPlan). AskAnswered (setting_of k) bar has.joins (view_of q) new txn deed result) plan
        (asks has.joins (has.count ∙ (all ∙ sym (ap (λ (k : RowPlan). k.trees) plan)))))

    pub joins_stop : (fault : Fault) (result : Result Receipt Fault) → result ≡ Err fault → StopsBehind p new txn trees fault
        → AsksBehind p new bar txn deed result
    joins_stop fault result is stops old watches =
        subst (AskAnswers setting bar old new txn deed) (sym is)
        (asks_midway setting bar old new txn deed fault
        (subst (λ (n : ℕ). JoinsStop setting bar old new txn n fault) all (stops bar full old watches)))
