-- What is kept, whatever is answered.
use Rattle.std.proofs.Common.{◌≡◌, ℕ, List, [], ◌∷◌, Option, Some, None, Result, Ok, Err, refl, sym, subst, ◌∙◌, inl, inr, arith}
use Rattle.lt_seq.specs.declared.fault.Fault.{Fault}
use Rattle.lt_seq.specs.declared.event.Receipt.{Receipt}
use Rattle.lt_seq.specs.declared.event.Deed.{Deed}
use Rattle.lt_seq.specs.Table.{Setting}
use Rattle.lt_seq.specs.Yard.{PassView, Answers, AskAnswers}
use Rattle.lt_seq.proofs.HistoryLaws.{front_itself}
use Rattle.lt_seq.proofs.YardLaws.{goes_then}
use Rattle.lt_requests.specs.declared.wish.Wish.{Wish}
use Rattle.lt_requests.specs.declared.cycle.Edge.{Edge}
use Rattle.lt_requests.specs.declared.started.Started.{Started}
use Rattle.lt_requests.specs.declared.started.Started.TheVariants.{Granted as StartedGranted, Waits, Deadlock}
use Rattle.lt_requests.specs.Started.{AreMade, HasFailed, IsCutShort, IsSearched, HasFault, IsStarted, Keeps, deed_for}

pub keeps_itself : (setting : Setting) (old new : PassView) → new ≡ old → Keeps setting old new
keeps_itself setting old new same = subst (λ p. Keeps setting old p) (sym same) (record {
  rights = refl;
  goes = λ sound. record { number = refl; met = omega arith; front = front_itself old.front; sound = sound };
})

keeps_then : (setting : Setting) (one two three : PassView) → Keeps setting one two → Keeps setting two three → Keeps setting one three
keeps_then setting one two three first second = record {
  rights = second.rights ∙ first.rights;
  goes = λ sound. (let a = first.goes sound in goes_then setting one two three a (second.goes a.sound));
}

keeps_made : (setting : Setting) (old new : PassView) (txn : ℕ) (rs : List Receipt) → AreMade setting old new txn rs → Keeps setting old new
keeps_made setting old new txn [] made = keeps_itself setting old new made
keeps_made setting old new txn (r ∷ rs) made =
    keeps_then setting old made.next new (record { rights = made.happens.rights; goes = λ sound. made.happens.goes }) (keeps_made setting made.next new txn rs made.others)

keeps_answered : (setting : Setting) (old new : PassView) (txn : ℕ) (deed : Deed) (result : Result Receipt Fault) → Answers setting old new txn deed result → Keeps setting old new
keeps_answered setting old new txn deed result answers = record { rights = answers.rights; goes = λ sound. answers.goes }

keeps_asked : (setting : Setting) (bar : ℕ) (old new : PassView) (txn : ℕ) (deed : Deed) (result : Result Receipt Fault) → AskAnswers setting bar old new txn deed result → Keeps setting old new
keeps_asked setting bar old new txn deed result answers = record { rights = answers.rights; goes = λ sound. answers.goes }

keeps_failed : (setting : Setting) (txn : ℕ) (left : List Wish) (old new : PassView) (fault : Fault) → HasFailed setting txn left old new fault → Keeps setting old new
keeps_failed setting txn left old new fault (inl short) = keeps_itself setting old new short.0
keeps_failed setting txn left old new fault (inr by) = keeps_answered setting old new txn _ (Err fault) by.3

keeps_cut : (setting : Setting) (txn : ℕ) (wishes : List Wish) (owners : List ℕ) (old new : PassView) (fault : Fault) → IsCutShort setting txn wishes owners old new fault → Keeps setting old new
keeps_cut setting txn wishes owners old new fault cut = keeps_then setting old cut.last new (keeps_made setting old cut.last txn cut.receipts cut.made) (keeps_failed setting txn cut.left cut.last new fault cut.failed)

keeps_searched : (setting : Setting) (bar : ℕ) (wish : Wish) (wishes : List Wish) (old new : PassView) (owners : List ℕ) (found : Option (List Edge)) → IsSearched setting bar wish wishes old new owners found → Keeps setting old new
keeps_searched setting bar wish wishes old new owners found is =
    keeps_then setting old is.asked new (keeps_asked setting bar old is.asked wish.txn (deed_for wish) (Ok is.ask) is.held.answers) (keeps_made setting is.asked new wish.txn is.searched.receipts is.searched.made)

keeps_fault : (setting : Setting) (bar : ℕ) (wish : Wish) (wishes : List Wish) (old new : PassView) (fault : Fault) → HasFault setting bar wish wishes old new fault → Keeps setting old new
keeps_fault setting bar wish wishes old new fault (inl short) = keeps_itself setting old new short.0
keeps_fault setting bar wish wishes old new fault (inr (inl answers)) = keeps_asked setting bar old new wish.txn (deed_for wish) (Err fault) answers
keeps_fault setting bar wish wishes old new fault (inr (inr cut)) =
    keeps_then setting old cut.asked new (keeps_asked setting bar old cut.asked wish.txn (deed_for wish) (Ok cut.ask) cut.held.answers) (keeps_cut setting wish.txn wishes cut.owners cut.asked new fault cut.cut)

pub keeps_started : (setting : Setting) (bar : ℕ) (wish : Wish) (others waiting before : List Wish) (old new : PassView) (after : List Wish) (result : Result Started Fault) → IsStarted setting bar wish others waiting before old new after result → Keeps setting old new
keeps_started setting bar wish others waiting before old new after (Ok (StartedGranted place buffered)) is = keeps_asked setting bar old new wish.txn (deed_for wish) (Ok (is.0).ask) (is.0).answers
keeps_started setting bar wish others waiting before old new after (Ok (Waits owners)) is = keeps_searched setting bar wish waiting old new owners None is.0
keeps_started setting bar wish others waiting before old new after (Ok (Deadlock walk)) is = keeps_searched setting bar wish waiting old new (is.0).0 (Some walk) (is.0).1
keeps_started setting bar wish others waiting before old new after (Err fault) is = keeps_fault setting bar wish waiting old new fault is.0
