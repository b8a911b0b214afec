-- The passes of a table that is closed.
use Rattle.std.proofs.Common.{◌≡◌, ℕ, ◌+◌, ◌-◌, List, [], ◌∷◌, ◌++◌, map, length, refl, sym, ap, ◌∙◌, subst, arith, append-nil}
use Rattle.std.proofs.Common.{append_assoc, length-append}
use Rattle.std.specs.List.{All, AllByRecursion}
use Rattle.std.proofs.lemmas.List.Elements.{All-nil, All-cons, All-head, All-tail, All-append, All-map, All-weaker}
use Rattle.std.proofs.lemmas.List.{map-append}
use Rattle.lt_seq.specs.declared.event.Event.{Event}
use Rattle.lt_seq.specs.declared.event.Receipt.{Receipt}
use Rattle.lt_rows.specs.declared.row_plan.RowPlan.{RowPlan}
use Rattle.lt_seq.specs.declared.yard.Closed.{Closed}
use Rattle.lt_seq.specs.History.{IsFront, after, calls_from}
use Rattle.lt_rows.specs.Plan.{setting_of}
use Rattle.lt_seq.specs.Yard.{PassView}
use Rattle.lt_seq.specs.Passes.{AreAll, FirstHasAll, IsRest, front_of_first, held_from}
use Rattle.lt_seq.proofs.HistoryLaws.{calls-append}
use Rattle.lt_rows.specs.declared.view.View.{View}
use Rattle.lt_rows.specs.Views.{used_after}
use Rattle.lt_rows.specs.Rule.{IsOfOthers}
use Rattle.lt_locktree.specs.declared.locktree.Locktree.{Locktree}
use Rattle.lt_locktree.specs.declared.tree_pass.TreePass.{TreePass}
use Rattle.lt_locktree.specs.Calls.{sees, IsOfTable, ClosesIt}
use Rattle.lt_locktree.proofs.CallLaws.{none_calls}
use Rattle.lt_manager.specs.Views.{Kept, IsKept, view_of, IsPassOfTable}
use Rattle.lt_manager.specs.Closings.{MissesOthers, HasItsCalls}
use Rattle.lt_manager.proofs.OriginLaws.{of_table}
use Rattle.lt_manager.proofs.PassLaws.{used_is}

-- a sound pass that misses what others made alone has the receipts of all its events
pub calls_of : (plan : RowPlan) (events : List Event) (k : Kept) → (sees k.pass).plan ≡ plan → IsKept k → MissesOthers events (sees k.pass)
    → HasItsCalls (setting_of plan) events (view_of k)
calls_of plan events k same sound (rest, is, others) =
    let v : View = sees k.pass in
    let number : ℕ = v.mark - 1 in
    let one = k.pass.pass.numbered.1 in
    let mark = k.pass.pass.numbered.0 in
    let none : calls_from (plan.first + length v.front) number rest ≡ [] =
    none_calls (plan.first + length v.front) number rest (others number (omega (arith, mark)) (omega (arith, one, mark))) in
    record {
      front = (rest, is);
      mine =
          sound.mine
          ∙ (ap (λ (p : RowPlan). calls_from p.first number v.front) same
          ∙ (sym (append-nil (calls_from plan.first number v.front))
          ∙ (ap (λ (l : List Receipt). calls_from plan.first number v.front ++ l) (sym none)
          ∙ (sym (calls-append plan.first number v.front rest) ∙ ap (calls_from plan.first number) (sym is)))));
    }

-- two histories that go on as each other are one
front_both : (one two : List Event) → IsFront one two → IsFront two one → one ≡ two
front_both one two ([], is) back = sym (is ∙ append-nil one)
front_both one two (e ∷ es, is) (others, are) =
    absurd (omega (arith, ap length is, length-append one (e ∷ es), ap length are, length-append two others))

-- a pass that has learned of a whole history, and has seen no more, misses what others made alone
pub misses_others : (events now : List Event) (v : View) → (more : List Event) × (now ≡ v.front ++ more) × IsOfOthers v more
    → IsFront events now → IsFront now events → MissesOthers events v
misses_others events now v (more, is, others) told back = (more, front_both events now told back ∙ is, others)

-- the passes of which the receipts were gathered, where the others are to come
pub record AreGathered (t : Locktree) (passes rest : List Kept) (events : List Event) (first : TreePass)
    (lists : List (List Receipt)) : Type 0 where
  pub done : List Kept
  pub all : done ++ rest ≡ passes
  pub lists_are : lists ≡ map (λ (k : Kept). k.mine) done
  pub calls : All (λ (k : Kept). HasItsCalls (setting_of t.rows.plan) events (view_of k)) done
  pub of : AllByRecursion (IsPassOfTable t) rest
  pub closes : ClosesIt t first
  pub front : (sees first).front ≡ events

-- a pass knows the table that it is of
pub plan_of : (t : Locktree) (k x : Kept) → k ≡ x → IsPassOfTable t x → (sees k.pass).plan ≡ t.rows.plan
plan_of t k x is of = ap (λ (y : Kept). (sees y.pass).plan) is ∙ (of_table t x of).1

module _ (t : Locktree) (passes rest left : List Kept) (events : List Event) (first now : TreePass) (lists more : List (List Receipt))
    (x k : Kept) where
  abbrev Calls : Kept → Type 0
  Calls p = HasItsCalls (setting_of t.rows.plan) events (view_of p)

  -- the next is of the table
  pub gathered_next : AreGathered t passes rest events first lists → rest ≡ x ∷ left → k ≡ x → IsOfTable t k.pass
  gathered_next are next is =
      let of : AllByRecursion (IsPassOfTable t) (x ∷ left) = subst (AllByRecursion (IsPassOfTable t)) next are.of in
      subst (λ (y : Kept). IsOfTable t y.pass) (sym is) (of_table t x of.0)

  -- the receipts of one more are gathered
  pub gathered_more : AreGathered t passes rest events first lists → rest ≡ x ∷ left → k ≡ x → IsKept k
      → MissesOthers (sees first).front (sees k.pass) → ClosesIt t now → (sees now).front ≡ (sees first).front → more ≡ lists ++ k.mine ∷ []
      → AreGathered t passes left events now more
  gathered_more are next is sound misses closes same pushed =
      let of : AllByRecursion (IsPassOfTable t) (x ∷ left) = subst (AllByRecursion (IsPassOfTable t)) next are.of in
      let calls : Calls k =
      calls_of t.rows.plan events k (plan_of t k x is of.0) sound
      (subst (λ (es : List Event). MissesOthers es (sees k.pass)) are.front misses) in
      record {
        done = are.done ++ x ∷ [];
        all = append_assoc are.done (x ∷ []) left ∙ (ap (λ (l : List Kept). are.done ++ l) (sym next) ∙ are.all);
        lists_are =
            pushed
            ∙ ((λ i. are.lists_are i ++ (is i).mine ∷ [])
            ∙ sym (map-append (λ (y : Kept). y.mine) are.done (x ∷ [])));
        calls = All-append Calls are.done (x ∷ []) are.calls (All-cons Calls x [] (subst Calls is calls) (All-nil Calls));
        of = of.1;
        closes = closes;
        front = same ∙ are.front;
      }

-- the first has all the rights, and its front is the history
pub gathered_first : (t : Locktree) (passes left : List Kept) (x k : Kept) (lists : List (List Receipt)) → passes ≡ x ∷ left
    → AllByRecursion (IsPassOfTable t) passes → FirstHasAll (setting_of t.rows.plan) (map view_of passes) → k ≡ x → IsKept k → lists
    ≡ k.mine ∷ []
    → AreGathered t passes left (front_of_first (map view_of passes)) k.pass lists
gathered_first t passes left x k lists next of first is sound pushed =
    let all : AllByRecursion (IsPassOfTable t) (x ∷ left) = subst (AllByRecursion (IsPassOfTable t)) next of in
    let rights = subst (λ (l : List Kept). FirstHasAll (setting_of t.rows.plan) (map view_of l)) next first in
    let front : (sees k.pass).front ≡ front_of_first (map view_of passes) =
    ap (λ (y : Kept). (sees y.pass).front) is ∙ ap (λ (l : List Kept). front_of_first (map view_of l)) (sym next) in
    let calls : HasItsCalls (setting_of t.rows.plan) (front_of_first (map view_of passes)) (view_of k) =
    calls_of t.rows.plan (front_of_first (map view_of passes)) k (plan_of t k x is all.0) sound
    ([], sym front ∙ sym (append-nil (sees k.pass).front), λ number low high. tt) in
    record {
      done = x ∷ [];
      all = sym next;
      lists_are = pushed ∙ λ i. (is i).mine ∷ [];
      calls = All-cons Calls x [] (subst Calls is calls) (All-nil Calls);
      of = all.1;
      closes = (
        subst (λ (y : Kept). IsOfTable t y.pass) (sym is) (of_table t x all.0),
        ap (λ (y : Kept). (sees y.pass).rights) is
            ∙ rights,
      );
      front = front;
    }
  where
    Calls : Kept → Type 0
    Calls p = HasItsCalls (setting_of t.rows.plan) (front_of_first (map view_of passes)) (view_of p)

-- all were gathered
module _ (t : Locktree) (passes rest : List Kept) (events : List Event) (first : TreePass) (lists : List (List Receipt))
    (are : AreGathered t passes rest events first lists) (none : rest ≡ []) where
  done_is : are.done ≡ passes
  done_is = sym (append-nil are.done) ∙ (ap (λ (l : List Kept). are.done ++ l) (sym none) ∙ are.all)

  pub gathered_calls : All (λ (k : Kept). HasItsCalls (setting_of t.rows.plan) events (view_of k)) passes
  gathered_calls = subst (All (λ (k : Kept). HasItsCalls (setting_of t.rows.plan) events (view_of k))) done_is are.calls

  pub gathered_lists : lists ≡ map (λ (k : Kept). k.mine) passes
  gathered_lists = are.lists_are ∙ ap (map (λ (k : Kept). k.mine)) done_is

-- the passes' own receipts are the lists of the history
own_lists : (plan : RowPlan) (events : List Event) (passes : List Kept)
    → All (λ (k : Kept). HasItsCalls (setting_of plan) events (view_of k)) passes
    → map (λ (k : Kept). k.mine) passes ≡ map (λ (n : ℕ). calls_from plan.first n events)
    (map (λ (p : PassView). p.number) (map view_of passes))
own_lists plan events [] all = refl
own_lists plan events (k ∷ ks) all =
    let Calls = λ (x : Kept). HasItsCalls (setting_of plan) events (view_of x) in
    let one = (All-head Calls k ks all).mine in
    let others = own_lists plan events ks (All-tail Calls k ks all) in
    λ i. one i ∷ others i

mine_of : (passes : List Kept) → map (λ (k : Kept). k.mine) passes ≡ map (λ (p : PassView). p.mine) (map view_of passes)
mine_of [] = refl
mine_of (k ∷ ks) = ap (λ (l : List (List Receipt)). k.mine ∷ l) (mine_of ks)

-- what a closed table leaves is what its yard leaves
pub rest_is : (plan : RowPlan) (passes : List Kept) (events : List Event) (closed : Closed) → AreAll (setting_of plan) (map view_of passes)
    → All (λ (k : Kept). HasItsCalls (setting_of plan) events (view_of k)) passes → map (λ v. v.items) closed.lists.items
    ≡ map (λ (k : Kept). k.mine) passes
    → closed.places ≡ length events → closed.used ≡ used_after plan events → closed.left.items ≡ held_from 0 (after (setting_of plan) events)
    → IsRest (setting_of plan) events (map view_of passes) closed
rest_is plan passes events closed all calls lists places used_rows left = record {
  fronts = All-map (λ (p : PassView). IsFront p.front events) view_of passes
      (All-weaker (λ (k : Kept). HasItsCalls (setting_of plan) events (view_of k)) (λ (k : Kept). IsFront (sees k.pass).front events)
      (λ k has. has.front) passes calls);
  mine = lists ∙ mine_of passes;
  lists = lists ∙ (own_lists plan events passes calls ∙ ap (map (λ (n : ℕ). calls_from plan.first n events)) all.numbers);
  places = places;
  used = used_rows ∙ used_is plan events;
  left = left;
}
