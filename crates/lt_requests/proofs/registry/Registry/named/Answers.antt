use Rattle.std.proofs.Common.{sym, subst, ap, ◌∙◌, ◌≡◌, ◌++◌, ◌∷◌, [], take, All, true, append-nil}
use Rattle.std.specs.Prelude.{option_to_list}
use Rattle.std.proofs.lemmas.List.{take_all}
use Rattle.lt_requests.specs.declared.wish.Wish.{Wish}
use Rattle.lt_requests.specs.Registered.{Ascend, is_registered}
use Rattle.lt_requests.specs.Search.{wishes_of}
use Rattle.lt_requests.proofs.QuestionLaws.{named_more, named_nobody, ascend-wishes_of, named_wait}
use Rattle.lt_requests.proofs.registry.Registry.named.Goals as goal
use Rattle.lt_requests.proofs.registry.Registry.named.Goals.{in-Some+in_ok-push, in_default}

pub loop-owner-init : goal.loop-owner-init
loop-owner-init c = c.in_ok-named.ensures.items ∙ sym (named_nobody c.args.self.now)

pub loop-owner-preserved : goal.loop-owner-preserved
loop-owner-preserved c =
    let ascend = subst Ascend c.self.view_is c.self.invariant in
    let before = wishes_of (take c.loop-owner.owner-index c.args.owners.now) c.args.self.now in
    let step = named_more c.args.owners.now c.args.self.now c.loop-owner.owner-index 0 c.requires ascend c.loop-owner-test.true in
    elim c.match-wish_of.branch [
      | in-Some+in_ok-push w ↦ ap (λ v. v.items) w.named-is ∙ w.in_ok-push.ensures.items ∙ ap (λ l. l ++ w.in-Some.wish ∷ []) c.loop-owner.invariant ∙ ap (λ o. before ++ option_to_list o) (sym w.in-Some.is ∙ c.wish_of.ensures) ∙ sym step
      | in_default w ↦ ap (λ v. v.items) w.named-is ∙ c.loop-owner.invariant ∙ sym (append-nil before) ∙ ap (λ o. before ++ option_to_list o) (sym w.in_default.is ∙ c.wish_of.ensures) ∙ sym step
    ]

pub returns-clause-ascend : goal.returns-clause-ascend
returns-clause-ascend c =
    let all = ap (λ l. wishes_of l c.args.self.now) (take_all c.loop-owner.owner-index c.args.owners.now c.loop-owner-test.false) in
    subst Ascend (sym (c.loop-owner.invariant ∙ all)) (ascend-wishes_of c.args.owners.now c.args.self.now (subst Ascend c.self.view_is c.self.invariant))

pub returns-clause-waiting : goal.returns-clause-waiting
returns-clause-waiting c =
    let all = ap (λ l. wishes_of l c.args.self.now) (take_all c.loop-owner.owner-index c.args.owners.now c.loop-owner-test.false) in
    subst (λ l. All (λ (w : Wish). is_registered w.txn c.args.self.now ≡ true) l) (sym (c.loop-owner.invariant ∙ all)) (named_wait c.args.owners.now c.args.self.now)
