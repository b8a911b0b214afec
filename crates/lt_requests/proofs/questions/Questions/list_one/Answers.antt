use Rattle.std.proofs.Common.{sym, subst, ◌++◌, ◌∷◌, []}
use Rattle.lt_requests.specs.Questions.{AreKept}
use Rattle.lt_requests.proofs.QuestionLaws.{kept_more}
use Rattle.lt_requests.proofs.questions.Questions.list_one.Goals as goal

pub returns-clause-kept : goal.returns-clause-kept
returns-clause-kept c =
    let more = kept_more c.args.registry.now c.args.self.now.listed.items c.args.self.now.asked c.args.wish.now c.requires.kept c.requires.waiting (sym c.if-is_waiting.ensures) in
    subst (λ l. AreKept c.args.registry.now l c.add.new.self) (sym c.in_ok-push.ensures.items)
    (subst (λ a. AreKept c.args.registry.now (c.args.self.now.listed.items ++ c.args.wish.now ∷ []) a) (sym c.in_ok-add.ensures) more)
