-- Rounds, from the opening to the end, are a run.
use Rattle.std.proofs.Common.{◌≡◌, ◌≢◌, Contains, ℕ, suc, ◌<◌, ◌≤◌, List, [], ◌∷◌, ◌++◌, Bool, true, false, length, map, refl, sym, ap, ◌∙◌, subst, arith, length-append}
use Rattle.std.specs.List.{AllByRecursion}
use Rattle.lt_seq.specs.declared.event.Event.{Event}
use Rattle.lt_seq.specs.Table.{Setting}
use Rattle.lt_seq.specs.History.{IsFront}
use Rattle.lt_seq.specs.Questions.{receipts_of}
use Rattle.lt_seq.specs.Yard.{place_after}
use Rattle.lt_trace.specs.declared.line.Line.{Line}
use Rattle.lt_trace.specs.Grammar.{txns_of}
use Rattle.lt_requests.specs.declared.wish.Wish.{Wish}
use Rattle.lt_runner.specs.TurnView.{Seat}
use Rattle.lt_runner.specs.Seats.{opening_seat}
use Rattle.lt_runner.specs.Plays.{Past, next_wish, wish_in, lines_for, opening_stage}
use Rattle.lt_runner.specs.Run.{IsListedRightly}
use Rattle.lt_runner.specs.Played.{Search, IsPastAt, Stands, AllStand}
use Rattle.lt_runner.proofs.ListedLaws.{search_more, receipts_within}
use Rattle.lt_runner.proofs.RunLaws.{come_is_run}
use Rattle.lt_crew.specs.Crew.{numbers_in, only}
use Rattle.lt_runner.specs.Listed.{IsListedNow}
use Rattle.lt_crew.specs.Rounds.{AreRounds, opened, worked, searched, opening_seats, RoundsStand, RoundsAreARun}
use Rattle.lt_crew.proofs.MovedLaws.{only_there}
use Rattle.lt_crew.proofs.StandLaws.{all_stand}

-- Nothing was played.

opening_numbers : (trees : ℕ) (lines : List Line) (txns : List ℕ) → numbers_in (map (λ txn. opening_seat trees txn (lines_for txn lines)) txns) ≡ txns
opening_numbers trees lines [] = refl
opening_numbers trees lines (n ∷ ns) = ap (λ (ms : List ℕ). n ∷ ms) (opening_numbers trees lines ns)

opening_stands : (setting : Setting) (lines : List Line) (txns : List ℕ) →
    AllByRecursion (Stands true setting [] lines []) (map (λ txn. opening_seat setting.plan.trees txn (lines_for txn lines)) txns)
opening_stands setting lines [] = tt
opening_stands setting lines (n ∷ ns) = (
  record {
    moves = [];
    played = tt;
    inside = tt;
    listed = tt;
    own = tt;
    here = refl;
    past = record { seen = omega arith; held = λ e. refl; left = λ e. refl; once = λ e. omega arith };
    made = refl;
  },
  opening_stands setting lines ns,
)

opening_stand : (setting : Setting) (lines : List Line) → AllStand true setting [] lines [] (opening_seats setting lines)
opening_stand setting lines = record {
  legal = tt;
  numbers = opening_numbers setting.plan.trees lines (txns_of lines);
  stand = opening_stands setting lines (txns_of lines);
  own = tt;
}

-- Searches.

listed_rightly : (seat : Seat) (wishes : List Wish) (setting : Setting) (history : List Event) (past : Past) → IsListedNow wishes seat →
    IsPastAt true setting history seat past →
    IsListedRightly true (record { turn = seat.turn; past = past }) wishes
listed_rightly seat wishes setting history past now fits = record { waits = now.waits; listed = by_listed seat.listed refl }
  where
    by_listed : (b : Bool) → seat.listed ≡ b → 1 < past.held → wish_in seat.turn.txn wishes ≡ next_wish seat.turn.txn seat.turn.lines
    by_listed true e held = now.listed e
    by_listed false e held = absurd (let k = fits.once e in omega (arith, k, held))

-- a search that begins here
search_begins : (setting : Setting) (searches : List Search) (made : Search) (lines : List Line) (history : List Event) (seats : List Seat) →
    place_after setting history ≤ made.place →
    AllByRecursion (λ seat. seat.turn.txn ≢ made.txn → IsListedNow made.wishes seat) seats →
    AllByRecursion (Stands true setting searches lines history) seats →
    AllByRecursion (Stands true setting (searches ++ made ∷ []) lines history) seats
search_begins setting searches made lines history [] behind others all = tt
search_begins setting searches made lines history (s ∷ ss) behind others all = (
  search_more true setting searches made history (opening_stage setting s.turn.txn (lines_for s.turn.txn lines)) s
      (receipts_of setting.plan.first s.turn.txn history) behind
      (receipts_within setting.plan.first s.turn.txn history)
      (λ other past fits. listed_rightly s made.wishes setting history past (others.0 (λ same. other (sym same))) fits) all.0,
  search_begins setting searches made lines history ss behind others.1 all.1,
)

-- all searches came before the end of the history
abbrev AreEarlier : Setting → List Event → List Search → Type 0
AreEarlier setting history searches = AllByRecursion (λ s. s.place < place_after setting history) searches

inside_on : (setting : Setting) (a b : List Event) (searches : List Search) → IsFront a b → AreEarlier setting a searches →
    AreEarlier setting b searches
inside_on setting a b [] front all = tt
inside_on setting a b (s ∷ ss) front all = (omega (arith, all.0, ap length front.1, length-append a front.0), inside_on setting a b ss front all.1)

inside_more : (setting : Setting) (history : List Event) (searches : List Search) (made : Search) → AreEarlier setting history searches →
    made.place < place_after setting history →
    AreEarlier setting history (searches ++ made ∷ [])
inside_more setting history [] made all here = (here, tt)
inside_more setting history (s ∷ ss) made all here = (all.0, inside_more setting history ss made all.1 here)

none_among : (searches : List Search) (s : Search) → Contains [] s → Contains searches s
none_among searches s (k, inside, is) = absurd (omega (arith, inside))

contains_last : (searches : List Search) (made s : Search) → Contains (made ∷ []) s → Contains (searches ++ made ∷ []) s
contains_last [] made s there = there
contains_last (x ∷ xs) made s there = let (k, inside, is) = contains_last xs made s there in (suc k, omega (arith, inside), is)

all_before : (setting : Setting) (history : List Event) (searches : List Search) (txn : ℕ) → AreEarlier setting history searches →
    AllByRecursion (λ s. s.txn ≢ txn → s.place < place_after setting history) searches
all_before setting history [] txn all = tt
all_before setting history (s ∷ ss) txn all = ((λ other. all.0), all_before setting history ss txn all.1)

before_more : (setting : Setting) (history : List Event) (searches : List Search) (made : Search) (txn : ℕ) → AreEarlier setting history searches →
    made.txn ≡ txn →
    AllByRecursion (λ s. s.txn ≢ txn → s.place < place_after setting history) (searches ++ made ∷ [])
before_more setting history [] made txn all same = ((λ other. absurd (other same)), tt)
before_more setting history (s ∷ ss) made txn all same = ((λ other. all.0), before_more setting history ss made txn all.1 same)

-- Behind rounds.

record IsSoFar (setting : Setting) (lines : List Line) (searches : List Search) (history : List Event) (seats : List Seat) : Type 0 where
  stand : AllStand true setting searches lines history seats
  inside : AreEarlier setting history searches

by_rounds : (setting : Setting) (lines : List Line) (searches : List Search) (history : List Event) (seats : List Seat) →
    AreRounds setting lines searches history seats →
    IsSoFar setting lines searches history seats
by_rounds setting lines searches history seats (opened none nothing start) =
    subst (λ (ss : List Search). IsSoFar setting lines ss history seats) (sym none)
    (subst (λ (es : List Event). IsSoFar setting lines [] es seats) (sym nothing)
    (subst (λ (all : List Seat). IsSoFar setting lines [] [] all) (sym start) (record { stand = opening_stand setting lines; inside = tt })))
by_rounds setting lines searches history seats (worked {before = before} {old = old} were are rounds round moved there) =
    let so_far = by_rounds setting lines searches before old rounds in
    record {
      stand = all_stand setting searches [] lines before history were are old seats round moved
          (λ pass txn dealt. record { before = all_before setting before searches txn so_far.inside; among = none_among searches }) there so_far.stand;
      inside = inside_on setting before history searches round.front so_far.inside;
    }
by_rounds setting lines _ history seats
    (searched {searches = searches} {before = before} {old = old} was is made rounds round moved there of_search) =
    let so_far = by_rounds setting lines searches before old rounds in
    let begun : AllStand true setting (searches ++ made ∷ []) lines before old = record {
      legal = so_far.stand.legal;
      numbers = so_far.stand.numbers;
      stand = search_begins setting searches made lines before old of_search.behind
          (subst (λ (n : ℕ). AllByRecursion (λ (seat : Seat). seat.turn.txn ≢ n → IsListedNow made.wishes seat) old)
          (sym of_search.txn) of_search.others) so_far.stand.stand;
      own = so_far.stand.own;
    } in
    record {
      stand = all_stand setting (searches ++ made ∷ []) (made ∷ []) lines before history (only was) (only is) old seats round moved
          (λ pass txn dealt. record {
            before = before_more setting before searches made txn so_far.inside (of_search.txn ∙ sym (only_there was pass txn dealt));
            among = contains_last searches made;
          }) there begun;
      inside = inside_more setting history searches made (inside_on setting before history searches round.front so_far.inside) of_search.inside;
    }

pub rounds_stand : RoundsStand
rounds_stand setting lines searches history seats rounds = (by_rounds setting lines searches history seats rounds).stand

pub rounds_are_a_run : RoundsAreARun
rounds_are_a_run setting lines searches history seats rounds over =
    let out = come_is_run true setting searches lines history seats (rounds_stand setting lines searches history seats rounds) over in
    (out.plays, out.run, out.outcomes)
