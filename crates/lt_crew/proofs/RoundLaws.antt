-- What a round makes of the transactions that were dealt to its passes.
use Rattle.std.proofs.Common.{◌≡◌, ℕ, ◌+◌, ◌<◌, List, [], ◌∷◌, ◌++◌, true, IsTrue, length, get_or, refl, sym, ap, subst, ◌∙◌, arith, append-nil}
use Rattle.lt_ranges.specs.Numbers.{is_in}
use Rattle.lt_seq.specs.declared.event.Event.{Event}
use Rattle.lt_seq.specs.declared.event.Receipt.{Receipt}
use Rattle.lt_seq.specs.Table.{Setting}
use Rattle.lt_seq.specs.History.{IsFront, calls_from}
use Rattle.lt_seq.specs.Questions.{receipts_of}
use Rattle.lt_seq.specs.Yard.{PassView, IsSound, place_after}
use Rattle.lt_seq.proofs.HistoryLaws.{front_itself, calls-append}
use Rattle.lt_trace.specs.declared.line.Line.{Line}
use Rattle.lt_runner.specs.TurnView.{Seat}
use Rattle.lt_runner.specs.Plays.{Stage, opening_stage, lines_for}
use Rattle.lt_runner.specs.Played.{Search, Fits, HasCome, Stands}
use Rattle.lt_runner.proofs.CallLaws.{receipts_of-append}
use Rattle.lt_runner.proofs.ComeLaws.{come_on, come_stays}
use Rattle.lt_runner.proofs.SearchLaws.{at_line_opening}
use Rattle.lt_crew.specs.Crew.{own_in, numbers_in, AreApart, AreDealt, PlaysAll, Worked, IsRound}
use Rattle.lt_crew.proofs.OwnLaws.{EachByItsOwn, own_receipts, no_receipts, each_by_own, legal_passes, is_in_numbers}

-- the receipts that a pass has added are its calls behind the round's beginning
pub added_are : (place pass : ℕ) (before more : List Event) (made : List Receipt) →
    calls_from place pass (before ++ more) ≡ calls_from place pass before ++ made →
    made ≡ calls_from (place + length before) pass more
added_are place pass before more made is = append_left (calls_from place pass before) made (calls_from (place + length before) pass more)
    (sym is ∙ calls-append place pass before more)
  where
    append_left : (xs ys zs : List Receipt) → xs ++ ys ≡ xs ++ zs → ys ≡ zs
    append_left [] ys zs e = e
    append_left (x ∷ xs) ys zs e = append_left xs ys zs (cc)

-- what a worker knows of a transaction that it played is, behind the round, known of all its events
pub round_come : (setting : Setting) (searches : List Search) (dealt : ℕ → List ℕ) (before more seen : List Event) (pass txn : ℕ)
    (made : List Receipt) (opening : Stage) (seat : Seat) →
    AreApart dealt → EachByItsOwn dealt more → IsTrue (is_in txn (dealt pass)) → made ≡ calls_from (place_after setting before) pass more →
    IsFront seen (before ++ more) →
    HasCome true setting searches seen opening seat (receipts_of setting.plan.first txn before ++ own_in txn made) →
    HasCome true setting searches (before ++ more) opening seat (receipts_of setting.plan.first txn (before ++ more))
round_come setting searches dealt before more seen pass txn made opening seat apart each there is front come =
    let whole : receipts_of setting.plan.first txn before ++ own_in txn made ≡ receipts_of setting.plan.first txn (before ++ more) =
    ap (λ rs. receipts_of setting.plan.first txn before ++ rs)
    (ap (own_in txn) is ∙ sym (own_receipts dealt (place_after setting before) txn pass more apart each there))
    ∙ sym (receipts_of-append setting.plan.first txn before more) in
    subst (λ (rs : List Receipt). HasCome true setting searches (before ++ more) opening seat rs) whole
    (come_on true setting searches seen (before ++ more) opening seat (receipts_of setting.plan.first txn before ++ own_in txn made) front come)

-- and one that nobody played stays
pub round_idle : (setting : Setting) (searches : List Search) (dealt : ℕ → List ℕ) (before more : List Event) (txn : ℕ) (opening : Stage)
    (seat : Seat) →
    EachByItsOwn dealt more → ((pass : ℕ) → IsTrue (is_in txn (dealt pass)) → ⊥) →
    HasCome true setting searches before opening seat (receipts_of setting.plan.first txn before) →
    HasCome true setting searches (before ++ more) opening seat (receipts_of setting.plan.first txn (before ++ more))
round_idle setting searches dealt before more txn opening seat each none come =
    let whole : receipts_of setting.plan.first txn before ≡ receipts_of setting.plan.first txn (before ++ more) =
    sym (append-nil (receipts_of setting.plan.first txn before))
    ∙ ap (λ rs. receipts_of setting.plan.first txn before ++ rs) (sym (no_receipts dealt (place_after setting before) txn more each none))
    ∙ sym (receipts_of-append setting.plan.first txn before more) in
    subst (λ (rs : List Receipt). HasCome true setting searches (before ++ more) opening seat rs) whole
    (come_stays true setting searches before more opening seat (receipts_of setting.plan.first txn before) come)

-- Rounds of several passes.

pub each_of_round : (setting : Setting) (found : List Search) (before more : List Event) (were are : ℕ → List Seat) →
    IsRound setting found before (before ++ more) were are → EachByItsOwn (λ pass. numbers_in (were pass)) more
each_of_round setting found before more were are round =
    each_by_own setting.plan.passes (λ pass. numbers_in (were pass)) (place_after setting before) more (legal_passes setting before more round.legal)
    (λ pass inside.
    let worked = round.worked pass inside in
    subst (AreDealt (numbers_in (were pass))) (added_are setting.plan.first pass before more worked.made worked.calls) worked.own)

stands_here : (setting : Setting) (searches : List Search) (found : List Search) (lines : List Line) (before more : List Event)
    (were are : ℕ → List Seat) → IsRound setting found before (before ++ more) were are →
    (pass i : ℕ) (d : Seat) → pass < setting.plan.passes → i < length (were pass) →
    Fits searches found (place_after setting before) (get_or (were pass) i d).turn.txn →
    Stands true setting searches lines before (get_or (were pass) i d) → Stands true setting searches lines (before ++ more) (get_or (are pass) i d)
stands_here setting searches found lines before more were are round pass i d there inside fits stands =
    let was = get_or (were pass) i d in
    let is = get_or (are pass) i d in
    let worked = round.worked pass there in
    let txn = was.turn.txn in
    let opening = opening_stage setting txn (lines_for txn lines) in
    let come = round_come setting searches (λ p. numbers_in (were p)) before more (before ++ more) pass txn worked.made opening is round.apart
    (each_of_round setting found before more were are round)
    (is_in_numbers (were pass) i d inside) (added_are setting.plan.first pass before more worked.made worked.calls) (front_itself (before ++ more))
    (worked.comes i d inside opening (receipts_of setting.plan.first txn before) searches
    (at_line_opening setting txn (lines_for txn lines)) fits stands) in
    subst (λ (n : ℕ). HasCome true setting searches (before ++ more) (opening_stage setting n (lines_for n lines)) is
    (receipts_of setting.plan.first n (before ++ more))) (sym (worked.txns i d inside)) come

-- behind a round each transaction that was played stands as far as it came
pub round_stands : (setting : Setting) (searches : List Search) (found : List Search) (lines : List Line) (before history : List Event)
    (were are : ℕ → List Seat) → IsRound setting found before history were are →
    (pass i : ℕ) (d : Seat) → pass < setting.plan.passes → i < length (were pass) →
    Fits searches found (place_after setting before) (get_or (were pass) i d).turn.txn →
    Stands true setting searches lines before (get_or (were pass) i d) → Stands true setting searches lines history (get_or (are pass) i d)
round_stands setting searches found lines before history were are round pass i d there inside fits stands =
    let (more, is) = round.front in
    subst (λ (es : List Event). Stands true setting searches lines es (get_or (are pass) i d)) (sym is)
    (stands_here setting searches found lines before more were are
    (subst (λ (es : List Event). IsRound setting found before es were are) is round) pass i d there inside fits stands)

-- and each that was not played stands as it did
pub round_waits : (setting : Setting) (searches : List Search) (found : List Search) (lines : List Line) (before history : List Event)
    (were are : ℕ → List Seat) (seat : Seat) → IsRound setting found before history were are →
    ((pass : ℕ) → IsTrue (is_in seat.turn.txn (numbers_in (were pass))) → ⊥) → Stands true setting searches lines before seat →
    Stands true setting searches lines history seat
round_waits setting searches found lines before history were are seat round none stands =
    let (more, is) = round.front in
    subst (λ (es : List Event). Stands true setting searches lines es seat) (sym is)
    (round_idle setting searches (λ p. numbers_in (were p)) before more seat.turn.txn
    (opening_stage setting seat.turn.txn (lines_for seat.turn.txn lines)) seat
    (each_of_round setting found before more were are (subst (λ (es : List Event). IsRound setting found before es were are) is round)) none stands)

-- What a worker's pass and seats show of it: it had seen the history when it began, and its own calls are those of the whole in the end.
pub worked_by : (setting : Setting) (found : List Search) (before history : List Event) (lent after_play told : PassView) (were are : List Seat) →
    PlaysAll setting found lent after_play were are →
    lent.front ≡ before → IsSound setting lent → IsFront after_play.front history → told.front ≡ history → told.number ≡ lent.number →
    told.mine ≡ after_play.mine → IsSound setting told →
    Worked setting found before history lent.number were are
worked_by setting found before history lent after_play told were are plays began sound front ended number mine told_sound = record {
  made = plays.made;
  calls =
      (ap (calls_from setting.plan.first lent.number) (sym ended) ∙ ap (λ n. calls_from setting.plan.first n told.front) (sym number))
      ∙ sym told_sound.mine ∙ mine ∙ plays.mine
      ∙ ap (λ rs. rs ++ plays.made) (sound.mine ∙ ap (calls_from setting.plan.first lent.number) began);
  own = plays.own;
  count = plays.count;
  txns = plays.txns;
  comes = λ i d inside opening receipts searches start fits come.
      let was = get_or were i d in
      let is = get_or are i d in
      come_on true setting searches after_play.front history opening is (receipts ++ own_in was.turn.txn plays.made) front
      (plays.comes i d inside opening receipts searches start
      (subst (λ (es : List Event). Fits searches found (place_after setting es) opening.turn.txn) (sym began) fits)
      (subst (λ (es : List Event). HasCome true setting searches es opening was receipts) (sym began) come));
}

-- a pass without transactions that made no call
pub worked_none : (setting : Setting) (found : List Search) (before history : List Event) (pass : ℕ) →
    calls_from setting.plan.first pass history ≡ calls_from setting.plan.first pass before → Worked setting found before history pass [] []
worked_none setting found before history pass same = record {
  made = [];
  calls = same ∙ sym (append-nil (calls_from setting.plan.first pass before));
  own = tt;
  count = refl;
  txns = λ i d inside. absurd (omega arith);
  comes = λ i d inside opening receipts searches start fits come. absurd (omega arith);
}
