-- A pass that acts alone keeps the notes of all joins.
use Rattle.std.proofs.Common.{◌≡◌, ℕ, ◌+◌, List, [], ◌∷◌, ◌++◌, Option, Some, None, Result, Ok, Err, refl, sym, ap, ◌∙◌, subst, inl, inr, append-nil, append_assoc}
use Rattle.std.proofs.Common.{◌==◌, true, arith}
use Rattle.std.proofs.lemmas.Bool.Decides.{nat_tests}
use Rattle.lt_seq.specs.declared.event.Deed.{Deed}
use Rattle.lt_seq.specs.declared.event.Deed.TheVariants.{Ask, Free, Who, Join}
use Rattle.lt_seq.specs.declared.event.Event.{Event}
use Rattle.lt_seq.specs.declared.event.Receipt.{Receipt}
use Rattle.lt_seq.specs.declared.event.JoinNote.{JoinNote}
use Rattle.lt_seq.specs.declared.fault.Fault.{Fault}
use Rattle.lt_seq.specs.Table.{Setting, TreeState, tree_at, tree_of, replied}
use Rattle.lt_seq.specs.History.{after, calls_from}
use Rattle.lt_seq.proofs.YardLaws.{front_then}
use Rattle.lt_seq.specs.Yard.{PassView, HasAll, IsSound, Happens, Watches, Answered, Answers, AskAnswered, AskAnswers, AreJoined, noted}
use Rattle.lt_requests.specs.declared.wish.Wish.{Wish}
use Rattle.lt_requests.specs.declared.cycle.Edge.{Edge}
use Rattle.lt_requests.specs.declared.started.Started.{Started}
use Rattle.lt_requests.specs.declared.started.Started.TheVariants.{Granted as StartedGranted, Waits, Deadlock}
use Rattle.lt_requests.specs.Started.{AreMade, HasFailed, IsCutShort, IsSearched, HasFault, IsStarted, deed_for}
use Rattle.lt_runner.specs.Notes.{notes_behind, notes_in, notes_of, HasOwnNotes, KeepsNotes}
use Rattle.lt_runner.proofs.OwnNoteLaws.{own_more, own_notes_still, notes_before}

-- the replies of a deed leave no note
noted_replied : (setting : Setting) (events : List Event) (txn : ℕ) (deed : Deed) (t : TreeState) (notes : List JoinNote) →
    noted setting events (replied setting txn deed t) notes ≡ noted setting events deed notes
noted_replied setting events txn (Ask tree range reply) t notes = refl
noted_replied setting events txn (Free tree range first count) t notes = refl
noted_replied setting events txn (Who tree range named owners) t notes = refl
noted_replied setting events txn (Join tree n m) t notes = refl

-- one event more
notes_more : (setting : Setting) (before es : List Event) (e : Event) (notes : List JoinNote) →
    notes_behind setting before (es ++ e ∷ []) notes ≡ noted setting (before ++ es) e.deed (notes_behind setting before es notes)
notes_more setting before [] e notes = ap (λ (b : List Event). noted setting b e.deed notes) (sym (append-nil before))
notes_more setting before (x ∷ xs) e notes =
    let kept = noted setting before x.deed notes in
    notes_more setting (before ++ x ∷ []) xs e kept
    ∙ ap (λ (b : List Event). noted setting b e.deed (notes_behind setting (before ++ x ∷ []) xs kept)) (append_assoc before (x ∷ []) xs)

pub keeps_notes_itself : (setting : Setting) (old new : PassView) → new ≡ old → KeepsNotes setting old new
keeps_notes_itself setting old new same = subst (λ p. KeepsNotes setting old p) (sym same) (record {
  rights = refl;
  number = refl;
  front = ([], sym (append-nil old.front));
  sound = λ sound. sound;
  own = λ sound notes. notes;
  notes = λ all notes. notes;
})

pub keeps_notes_then : (setting : Setting) (one two three : PassView) → KeepsNotes setting one two → KeepsNotes setting two three → KeepsNotes setting one three
keeps_notes_then setting one two three first second = record {
  rights = second.rights ∙ first.rights;
  number = second.number ∙ first.number;
  front = front_then one.front two.front three.front first.front second.front;
  sound = λ sound. second.sound (first.sound sound);
  own = λ sound notes. second.own (first.sound sound) (first.own sound notes);
  notes = λ all notes. second.notes (first.rights ∙ all) (first.notes all notes);
}

happens_notes : (setting : Setting) (old new : PassView) (txn : ℕ) (deed : Deed) (receipt : Receipt) → Happens setting old new txn deed receipt → KeepsNotes setting old new
happens_notes setting old new txn deed receipt happens = record {
  rights = happens.rights;
  number = happens.goes.number;
  front = happens.goes.front;
  sound = λ sound. happens.goes.sound;
  own = λ sound notes.
      let before = happens.before in
      let n = old.number in
      let tree = tree_at (after setting before) (tree_of deed) in
      let deed_is : receipt.event.deed ≡ replied setting txn deed tree = ap (λ (e : Event). e.deed) happens.event in
      let own : (receipt.event.pass == n) ≡ true = let k = ap (λ (e : Event). e.pass) happens.event in grind (arith, nat_tests) in
      let calls : calls_from setting.plan.first n (before ++ receipt.event ∷ []) ≡ calls_from setting.plan.first n old.front ++ receipt ∷ [] =
      ap (calls_from setting.plan.first n) (sym happens.front) ∙ ap (λ (k : ℕ). calls_from setting.plan.first k new.front) (sym happens.goes.number)
      ∙ sym happens.goes.sound.mine ∙ happens.mine ∙ ap (λ (rs : List Receipt). rs ++ receipt ∷ []) sound.mine in
      let kept : old.notes ≡ notes_of setting n before =
      notes ∙ sym (notes_before setting n old.front before receipt
      (front_then old.front happens.seen before happens.looked happens.waited) calls own) in
      happens.notes ∙ ap (noted setting before deed) kept ∙ sym (noted_replied setting before txn deed tree (notes_of setting n before))
      ∙ ap (λ (d : Deed). noted setting before d (notes_of setting n before)) (sym deed_is)
      ∙ sym (own_more setting n before receipt.event own) ∙ ap (notes_of setting n) (sym happens.front)
      ∙ ap (λ (k : ℕ). notes_of setting k new.front) (sym happens.goes.number);
  notes = λ all notes.
      let before = happens.before in
      let tree = tree_at (after setting before) (tree_of deed) in
      let here : before ≡ old.front = happens.alone all in
      let deed_is : receipt.event.deed ≡ replied setting txn deed tree = ap (λ (e : Event). e.deed) happens.event in
      let kept : old.notes ≡ notes_in setting before = notes ∙ ap (notes_in setting) (sym here) in
      happens.notes ∙ ap (noted setting before deed) kept ∙ sym (noted_replied setting before txn deed tree (notes_in setting before))
      ∙ ap (λ (d : Deed). noted setting before d (notes_in setting before)) (sym deed_is)
      ∙ sym (notes_more setting [] before receipt.event []) ∙ ap (notes_in setting) (sym happens.front);
}

watches_notes : (setting : Setting) (old new : PassView) → Watches setting old new → KeepsNotes setting old new
watches_notes setting old new watches = record {
  rights = watches.rights;
  number = watches.goes.number;
  front = watches.goes.front;
  sound = λ sound. watches.goes.sound;
  own = λ sound notes.
      own_notes_still setting old new sound watches.goes.sound watches.goes.front watches.goes.number watches.mine watches.notes notes;
  notes = λ all notes. watches.notes ∙ notes ∙ ap (notes_in setting) (sym (watches.alone all));
}

answered_notes : (setting : Setting) (old new : PassView) (txn : ℕ) (deed : Deed) (result : Result Receipt Fault) → Answered setting old new txn deed result → KeepsNotes setting old new
answered_notes setting old new txn deed (Ok receipt) happens = happens_notes setting old new txn deed receipt happens
answered_notes setting old new txn deed (Err fault) at = watches_notes setting old new at.watches

pub answers_notes : (setting : Setting) (old new : PassView) (txn : ℕ) (deed : Deed) (result : Result Receipt Fault) → Answers setting old new txn deed result → KeepsNotes setting old new
answers_notes setting old new txn deed result answers = answered_notes setting old new txn deed result answers.answer

joined_notes : (setting : Setting) (bar : ℕ) (old new : PassView) (txn tree : ℕ) (joins : List Receipt) → AreJoined setting bar old new txn tree joins → KeepsNotes setting old new
joined_notes setting bar old new txn tree [] same = keeps_notes_itself setting old new same
joined_notes setting bar old new txn tree (r ∷ rs) one =
    keeps_notes_then setting old one.next new (happens_notes setting old one.next txn (Join tree 0 0) r one.join) (joined_notes setting bar one.next new txn (tree + 1) rs one.others)

asked_notes : (setting : Setting) (bar : ℕ) (joins : List Receipt) (old new : PassView) (txn : ℕ) (deed : Deed) (result : Result Receipt Fault) → AskAnswered setting bar joins old new txn deed result → KeepsNotes setting old new
asked_notes setting bar joins old new txn deed (Ok receipt) asked = happens_notes setting old new txn deed receipt asked.happens
asked_notes setting bar joins old new txn deed (Err fault) at = watches_notes setting old new at.watches

pub asks_notes : (setting : Setting) (bar : ℕ) (old new : PassView) (txn : ℕ) (deed : Deed) (result : Result Receipt Fault) → AskAnswers setting bar old new txn deed result → KeepsNotes setting old new
asks_notes setting bar old new txn deed result answers =
    keeps_notes_then setting old answers.joined new (joined_notes setting bar old answers.joined txn 0 answers.joins answers.chain)
    (asked_notes setting bar answers.joins answers.joined new txn deed result answers.answer)

made_notes : (setting : Setting) (old new : PassView) (txn : ℕ) (rs : List Receipt) → AreMade setting old new txn rs → KeepsNotes setting old new
made_notes setting old new txn [] made = keeps_notes_itself setting old new made
made_notes setting old new txn (r ∷ rs) made =
    keeps_notes_then setting old made.next new (happens_notes setting old made.next txn _ r made.happens) (made_notes setting made.next new txn rs made.others)

failed_notes : (setting : Setting) (txn : ℕ) (left : List Wish) (old new : PassView) (fault : Fault) → HasFailed setting txn left old new fault → KeepsNotes setting old new
failed_notes setting txn left old new fault (inl short) = keeps_notes_itself setting old new short.0
failed_notes setting txn left old new fault (inr by) = answers_notes setting old new txn _ (Err fault) by.3

cut_notes : (setting : Setting) (txn : ℕ) (wishes : List Wish) (owners : List ℕ) (old new : PassView) (fault : Fault) → IsCutShort setting txn wishes owners old new fault → KeepsNotes setting old new
cut_notes setting txn wishes owners old new fault cut =
    keeps_notes_then setting old cut.last new (made_notes setting old cut.last txn cut.receipts cut.made) (failed_notes setting txn cut.left cut.last new fault cut.failed)

searched_notes : (setting : Setting) (bar : ℕ) (wish : Wish) (wishes : List Wish) (old new : PassView) (owners : List ℕ) (found : Option (List Edge)) → IsSearched setting bar wish wishes old new owners found → KeepsNotes setting old new
searched_notes setting bar wish wishes old new owners found is =
    keeps_notes_then setting old is.asked new (asks_notes setting bar old is.asked wish.txn (deed_for wish) (Ok is.ask) is.held.answers)
    (made_notes setting is.asked new wish.txn is.searched.receipts is.searched.made)

fault_notes : (setting : Setting) (bar : ℕ) (wish : Wish) (wishes : List Wish) (old new : PassView) (fault : Fault) → HasFault setting bar wish wishes old new fault → KeepsNotes setting old new
fault_notes setting bar wish wishes old new fault (inl short) = keeps_notes_itself setting old new short.0
fault_notes setting bar wish wishes old new fault (inr (inl answers)) = asks_notes setting bar old new wish.txn (deed_for wish) (Err fault) answers
fault_notes setting bar wish wishes old new fault (inr (inr cut)) =
    keeps_notes_then setting old cut.asked new (asks_notes setting bar old cut.asked wish.txn (deed_for wish) (Ok cut.ask) cut.held.answers)
    (cut_notes setting wish.txn wishes cut.owners cut.asked new fault cut.cut)

pub started_notes : (setting : Setting) (bar : ℕ) (wish : Wish) (others waiting before : List Wish) (old new : PassView) (after : List Wish) (result : Result Started Fault) → IsStarted setting bar wish others waiting before old new after result → KeepsNotes setting old new
started_notes setting bar wish others waiting before old new after (Ok (StartedGranted place buffered)) is = asks_notes setting bar old new wish.txn (deed_for wish) (Ok (is.0).ask) (is.0).answers
started_notes setting bar wish others waiting before old new after (Ok (Waits owners)) is = searched_notes setting bar wish waiting old new owners None is.0
started_notes setting bar wish others waiting before old new after (Ok (Deadlock walk)) is = searched_notes setting bar wish waiting old new (is.0).0 (Some walk) (is.0).1
started_notes setting bar wish others waiting before old new after (Err fault) is = fault_notes setting bar wish waiting old new fault is.0
