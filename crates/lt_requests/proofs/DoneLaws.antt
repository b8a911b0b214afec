-- With all the rights, and places for the joins of all trees, the ask and a question for each that waits, a start has its answer.
use Rattle.std.proofs.Common.{◌≡◌, ℕ, ◌+◌, ◌≤◌, ◌<◌, List, [], ◌∷◌, ◌++◌, map, length, Bool, true, false, cond, not, ◌||◌, ◌&&◌, eqb, Result, Ok, Err, refl, sym, ap, subst, ◌∙◌, inl, inr, arith, append_assoc, append-nil, length-append}
use Rattle.std.specs.Prelude.{filter}
use Rattle.std.specs.List.{AllByRecursion}
use Rattle.std.proofs.lemmas.Bool.{eq-eqb, ne_eqb}
use Rattle.lt_ranges.specs.Numbers.{is_in}
use Rattle.lt_seq.proofs.NumbersLaws.{AllAbove, Rises}
use Rattle.lt_seq.specs.declared.event.Deed.{Deed}
use Rattle.lt_seq.specs.declared.event.Event.{Event}
use Rattle.lt_seq.specs.declared.event.Receipt.{Receipt}
use Rattle.lt_seq.specs.declared.fault.Fault.{Fault}
use Rattle.lt_seq.specs.declared.fault.Fault.TheVariants.{OutOfMemory, Busy, HistoryFull, OutOfLocks}
use Rattle.lt_seq.specs.Table.{Setting}
use Rattle.lt_seq.specs.Yard.{PassView, Happens, AskAnswers, AreJoined, HasAll, place_after, places_end}
use Rattle.lt_seq.specs.Alone.{IsDone, IsDoneOrOutOfLocks}
use Rattle.lt_seq.proofs.YardLaws.{alone_answers, alone_ask_answers, alone_done, alone_ask_done}
use Rattle.lt_requests.specs.declared.wish.Wish.{Wish}
use Rattle.lt_requests.specs.declared.started.Started.{Started}
use Rattle.lt_requests.specs.Registered.{txns_of, Ascend, is_registered}
use Rattle.lt_requests.specs.Search.{Reaches, wishes_of, new_wishes}
use Rattle.lt_requests.specs.Questions.{AreKept}
use Rattle.lt_requests.specs.Started.{AreMade, HasFailed, HasFault, IsStarted, HasAnswer}
use Rattle.lt_requests.proofs.RegistryLaws.{rises_from, rises-filter}
use Rattle.lt_requests.proofs.QuestionLaws.{kept_more, kept_none, listed_fewer, registered-append}

-- Places.

one_place : (setting : Setting) (old new : PassView) (txn : ℕ) (deed : Deed) (r : Receipt) → Happens setting old new txn deed r → HasAll setting old → place_after setting new.front ≡ place_after setting old.front + 1
one_place setting old new txn deed r happens all =
    let more : length new.front ≡ length old.front + 1 = ap length happens.front ∙ length-append happens.before (r.event ∷ []) ∙ ap (λ (es : List Event). length es + 1) (happens.alone all) in
    omega (arith, more)

made_places : (setting : Setting) (old new : PassView) (txn : ℕ) (rs : List Receipt) → AreMade setting old new txn rs → HasAll setting old → (place_after setting new.front ≡ place_after setting old.front + length rs) × HasAll setting new
made_places setting old new txn [] made all = subst (λ (p : PassView). (place_after setting p.front ≡ place_after setting old.front + 0) × HasAll setting p) (sym made) (omega arith, all)
made_places setting old new txn (r ∷ rs) made all =
    let one = one_place setting old made.next txn _ r made.happens all in
    let rest = made_places setting made.next new txn rs made.others (made.happens.rights ∙ all) in
    (omega (arith, one, rest.0), rest.1)

joined_places : (setting : Setting) (bar : ℕ) (old joined : PassView) (txn tree : ℕ) (rs : List Receipt) → AreJoined setting bar old joined txn tree rs → HasAll setting old → (place_after setting joined.front ≡ place_after setting old.front + length rs) × HasAll setting joined
joined_places setting bar old joined txn tree [] same all = subst (λ (p : PassView). (place_after setting p.front ≡ place_after setting old.front + 0) × HasAll setting p) (sym same) (omega arith, all)
joined_places setting bar old joined txn tree (r ∷ rs) one all =
    let first = one_place setting old one.next txn _ r one.join all in
    let rest = joined_places setting bar one.next joined txn (tree + 1) rs one.others (one.join.rights ∙ all) in
    (omega (arith, first, rest.0), rest.1)

asked_places : (setting : Setting) (bar : ℕ) (old new : PassView) (txn : ℕ) (deed : Deed) (ask : Receipt) → AskAnswers setting bar old new txn deed (Ok ask) → HasAll setting old → place_after setting new.front ≤ place_after setting old.front + setting.plan.trees + 1
asked_places setting bar old new txn deed ask answers all =
    let joins = joined_places setting bar old answers.joined txn 0 answers.joins answers.chain all in
    let one = one_place setting answers.joined new txn deed ask answers.answer.happens joins.1 in
    omega (arith, joins.0, one, answers.most)

-- No one is asked for twice.

none_of : (txn n : ℕ) (ws : List Wish) → AllAbove n (txns_of ws) → is_registered n ws ≡ false
none_of txn n [] all = refl
none_of txn n (w ∷ ws) all = ap (λ b. b || is_registered n ws) (ne_eqb w.txn n (λ same. omega (arith, all.0, same))) ∙ none_of txn n ws all.1

-- none of those new is listed, and all wait
pub record AreNew (all listed new : List Wish) : Type 0 where
  pub rises : Rises (txns_of new)
  pub fresh : AllByRecursion (λ w. is_registered w.txn listed ≡ false) new
  pub there : AllByRecursion (λ w. is_registered w.txn all ≡ true) new

fresh_still : (listed : List Wish) (w : Wish) (ws : List Wish) → AllAbove w.txn (txns_of ws) → AllByRecursion (λ v. is_registered v.txn listed ≡ false) ws → AllByRecursion (λ v. is_registered v.txn (listed ++ w ∷ []) ≡ false) ws
fresh_still listed w [] above fresh = tt
fresh_still listed w (v ∷ ws) above fresh = (
  registered-append v.txn listed (w ∷ []) ∙ ap (λ b. b || (eqb w.txn v.txn || false)) fresh.0 ∙ ap (λ b. b || false) (ne_eqb w.txn v.txn (λ same. omega (arith, above.0, same))),
  fresh_still listed w ws above.1 fresh.1,
)

pub kept_all : (all listed asked new : List Wish) → AreKept all listed asked → AreNew all listed new → (sorted : List Wish) × AreKept all (listed ++ new) sorted
kept_all all listed asked [] kept are = (asked, subst (λ l. AreKept all l asked) (sym (append-nil listed)) kept)
kept_all all listed asked (w ∷ ws) kept are =
    let more = kept_more all listed asked w kept are.there.0 (kept.same w.txn ∙ are.fresh.0) in
    let rest = kept_all all (listed ++ w ∷ []) _ ws more (record { rises = are.rises.1; fresh = fresh_still listed w ws are.rises.0 are.fresh.1; there = are.there.1 }) in
    (rest.0, subst (λ l. AreKept all l rest.0) (append_assoc listed (w ∷ []) ws) rest.1)

filtered_there : (all : List Wish) (test : Wish → Bool) (ws : List Wish) → AllByRecursion (λ w. is_registered w.txn all ≡ true) ws → AllByRecursion (λ w. is_registered w.txn all ≡ true) (filter test ws)
filtered_there all test [] there = tt
filtered_there all test (w ∷ ws) there = by_test (test w) (filtered_there all test ws there.1)
  where
    by_test : (b : Bool) → AllByRecursion (λ v. is_registered v.txn all ≡ true) (filter test ws) → AllByRecursion (λ v. is_registered v.txn all ≡ true) (cond b (w ∷ filter test ws) (filter test ws))
    by_test true rest = (there.0, rest)
    by_test false rest = rest

new_fresh : (txn : ℕ) (listed ws : List Wish) → AllByRecursion (λ w. is_registered w.txn listed ≡ false) (new_wishes txn listed ws)
new_fresh txn listed [] = tt
new_fresh txn listed (w ∷ ws) = by_test (eqb w.txn txn) (is_registered w.txn listed) refl (new_fresh txn listed ws)
  where
    by_test : (a b : Bool) → is_registered w.txn listed ≡ b → AllByRecursion (λ v. is_registered v.txn listed ≡ false) (new_wishes txn listed ws) → AllByRecursion (λ v. is_registered v.txn listed ≡ false) (cond (not a && not b) (w ∷ new_wishes txn listed ws) (new_wishes txn listed ws))
    by_test true b e rest = rest
    by_test false true e rest = rest
    by_test false false e rest = (e, rest)

registered_own : (all ws : List Wish) → ((n : ℕ) → is_registered n ws ≡ true → is_registered n all ≡ true) → AllByRecursion (λ w. is_registered w.txn all ≡ true) ws
registered_own all [] there = tt
registered_own all (w ∷ ws) there =
    (there w.txn (ap (λ b. b || is_registered w.txn ws) (eq-eqb w.txn w.txn refl)), registered_own all ws (λ n h. there n (ap (λ b. eqb w.txn n || b) h ∙ or_true (eqb w.txn n))))
  where
    or_true : (b : Bool) → (b || true) ≡ true
    or_true true = refl
    or_true false = refl

named_there : (wishes : List Wish) (owners : List ℕ) → AllByRecursion (λ w. is_registered w.txn wishes ≡ true) (wishes_of owners wishes)
named_there wishes owners = filtered_there wishes (λ w. is_in w.txn owners) wishes (registered_own wishes wishes (λ n h. h))

all_fresh : (ws : List Wish) → AllByRecursion (λ w. is_registered w.txn [] ≡ false) ws
all_fresh [] = tt
all_fresh (w ∷ ws) = (refl, all_fresh ws)

pub first_new : (wishes : List Wish) (owners : List ℕ) → Ascend wishes → AreNew wishes [] (wishes_of owners wishes)
first_new wishes owners ascend = record {
  rises = rises-filter (λ w. is_in w.txn owners) wishes (rises_from (txns_of wishes) ascend);
  fresh = all_fresh (wishes_of owners wishes);
  there = named_there wishes owners;
}

pub more_new : (txn : ℕ) (wishes listed : List Wish) (owners : List ℕ) → Ascend wishes → AreNew wishes listed (new_wishes txn listed (wishes_of owners wishes))
more_new txn wishes listed owners ascend =
    let test = λ (w : Wish). not (eqb w.txn txn) && not (is_in w.txn (map (λ (l : Wish). l.txn) listed)) in
    record {
      rises = rises-filter test (wishes_of owners wishes) (rises-filter (λ w. is_in w.txn owners) wishes (rises_from (txns_of wishes) ascend));
      fresh = new_fresh txn listed (wishes_of owners wishes);
      there = filtered_there wishes test (wishes_of owners wishes) (named_there wishes owners);
    }

-- those that were asked for and those that are left wait, none twice
reached : (txn : ℕ) (wishes done listed asked done_now left : List Wish) (rs : List Receipt) → Ascend wishes → AreKept wishes (done ++ listed) asked → Reaches txn wishes done listed rs done_now left → length done + length rs + length left ≤ length wishes
reached txn wishes done listed asked done_now left [] ascend kept at =
    omega (arith, listed_fewer wishes (done ++ listed) asked kept, length-append done listed, ap length at.1)
reached txn wishes done [] asked done_now left (r ∷ rs) ascend kept at = absurd at
reached txn wishes done (w ∷ ws) asked done_now left (r ∷ rs) ascend kept at =
    let new = new_wishes txn (done ++ w ∷ ws) (wishes_of _ wishes) in
    let more = kept_all wishes (done ++ w ∷ ws) asked new kept (more_new txn wishes (done ++ w ∷ ws) _ ascend) in
    let same : (done ++ w ∷ ws) ++ new ≡ (done ++ w ∷ []) ++ (ws ++ new) =
    append_assoc done (w ∷ ws) new ∙ sym (append_assoc done (w ∷ []) (ws ++ new)) in
    let rest = reached txn wishes (done ++ w ∷ []) (ws ++ new) more.0 done_now left rs ascend (subst (λ l. AreKept wishes l more.0) same more.1) at.1 in
    omega (arith, rest, length-append done (w ∷ []))

pub few_asked : (txn : ℕ) (wishes : List Wish) (owners : List ℕ) (done left : List Wish) (rs : List Receipt) → Ascend wishes → Reaches txn wishes [] (wishes_of owners wishes) rs done left → length rs + length left ≤ length wishes
few_asked txn wishes owners done left rs ascend at =
    let kept = kept_all wishes [] [] (wishes_of owners wishes) (kept_none wishes [] [] refl refl) (first_new wishes owners ascend) in
    let all = reached txn wishes [] (wishes_of owners wishes) kept.0 done left rs ascend kept.1 at in omega (arith, all)

done_answers : (fault : Fault) → IsDone (Err fault) → HasAnswer (Err fault)
done_answers OutOfMemory h = tt
done_answers (Busy row holder) h = h
done_answers (HistoryFull place) h = h
done_answers (OutOfLocks place rows) h = tt

full_answers : (fault : Fault) → IsDoneOrOutOfLocks (Err fault) → HasAnswer (Err fault)
full_answers OutOfMemory h = tt
full_answers (Busy row holder) h = h
full_answers (HistoryFull place) h = h
full_answers (OutOfLocks place rows) h = tt

short_answers : (fault : Fault) → fault ≡ OutOfMemory → HasAnswer (Err fault)
short_answers fault short = subst (λ (f : Fault). HasAnswer (Err f)) (sym short) tt

failed_answers : (setting : Setting) (txn : ℕ) (left : List Wish) (old new : PassView) (fault : Fault) → HasFailed setting txn left old new fault → HasAll setting old → (1 ≤ length left → place_after setting old.front < places_end) → HasAnswer (Err fault)
failed_answers setting txn left old new fault (inl short) all room = short_answers fault short.1
failed_answers setting txn left old new fault (inr by) all room =
    done_answers fault (alone_done setting old new txn _ (Err fault) (alone_answers setting old new txn _ (Err fault) by.3 all) (room (omega (arith, ap length by.2))))

fault_answers : (setting : Setting) (bar : ℕ) (wish : Wish) (wishes : List Wish) (old new : PassView) (fault : Fault) → HasFault setting bar wish wishes old new fault → Ascend wishes → HasAll setting old → place_after setting old.front + setting.plan.trees + 1 + length wishes ≤ places_end → HasAnswer (Err fault)
fault_answers setting bar wish wishes old new fault (inl short) ascend all room = short_answers fault short.1
fault_answers setting bar wish wishes old new fault (inr (inl answers)) ascend all room =
    full_answers fault (alone_ask_done setting bar old new wish.txn _ (Err fault) (alone_ask_answers setting bar old new wish.txn _ (Err fault) answers all) (omega (arith, room)))
fault_answers setting bar wish wishes old new fault (inr (inr cut)) ascend all room =
    let ask_all : HasAll setting cut.asked = (cut.held.answers).rights ∙ all in
    let ask_room = asked_places setting bar old cut.asked wish.txn _ cut.ask cut.held.answers all in
    let made = made_places setting cut.asked cut.cut.last wish.txn cut.cut.receipts cut.cut.made ask_all in
    let few = few_asked wish.txn wishes cut.owners cut.cut.done cut.cut.left cut.cut.receipts ascend cut.cut.reaches in
    failed_answers setting wish.txn cut.cut.left cut.cut.last new fault cut.cut.failed made.1 (λ some. omega (arith, some, few, made.0, ask_room, room))

pub start_answers : (setting : Setting) (bar : ℕ) (wish : Wish) (others waiting before : List Wish) (old new : PassView) (after : List Wish) (result : Result Started Fault) → IsStarted setting bar wish others waiting before old new after result → Ascend waiting → HasAll setting old → place_after setting old.front + setting.plan.trees + 1 + length waiting ≤ places_end → HasAnswer result
start_answers setting bar wish others waiting before old new after (Ok started) is ascend all room = tt
start_answers setting bar wish others waiting before old new after (Err fault) is ascend all room = fault_answers setting bar wish waiting old new fault is.0 ascend all room
