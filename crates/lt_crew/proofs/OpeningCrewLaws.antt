-- A crew at the opening of a trace.
use Rattle.std.proofs.Common.{◌≡◌, ℕ, ◌+◌, ◌*◌, ◌^◌, ◌≤◌, List, [], ◌∷◌, map, true, false, length, nat_cmp, refl, sym, ap, subst, ◌∙◌}
use Rattle.std.proofs.Common.{◌<◌, arith}
use Rattle.std.specs.List.{AllByRecursion}
use Rattle.std.specs.List.Sorted.{IsStrictlySortedBy}
use Rattle.std.proofs.lemmas.Bool.{false≢true}
use Rattle.std.proofs.lemmas.List.{length-map}
use Rattle.std.proofs.lemmas.Nat.{mul-le}
use Rattle.lt_ranges.specs.declared.key.Key.{Key}
use Rattle.lt_seq.specs.Table.{Setting}
use Rattle.lt_trace.specs.declared.line.Line.{Line}
use Rattle.lt_trace.specs.declared.line.LineDeed.{LineDeed}
use Rattle.lt_trace.specs.declared.line.LineDeed.TheVariants.{Try, Lock, End, Abort, Escalate, Big}
use Rattle.lt_trace.specs.Grammar.{txns_of, IsTrace}
use Rattle.lt_trace.specs.Trace.{TraceView}
use Rattle.lt_runner.specs.TurnView.{Seat}
use Rattle.lt_runner.specs.Plays.{lines_for}
use Rattle.lt_runner.specs.Seats.{opening_seat}
use Rattle.lt_runner.specs.Serial.{setting_of, most_events}
use Rattle.lt_runner.specs.Steps.{IsFit, IsFitDeed, IsFitLine}
use Rattle.lt_runner.specs.PlaysOn.{IsFit as IsFitSeat, IsFitLine as IsPlainLine}
use Rattle.lt_runner.specs.Standing.{AreFitDeeds}
use Rattle.lt_runner.specs.Listed.{IsSeated, listed_in}
use Rattle.lt_runner.specs.Retries.{AllWaitersListed}
use Rattle.lt_runner.specs.Work.{work, steps}
use Rattle.lt_runner.specs.CrewCost.{seats_of, sum_of, pass_cost}
use Rattle.lt_runner.proofs.CrewCostLaws.{crews_make_few}
use Rattle.lt_runner.proofs.FitLaws.{fit_of_trace}
use Rattle.lt_runner.proofs.OrderLaws.{ascending_sorted}
use Rattle.lt_runner.proofs.StandingLaws.{steady_opening}
use Rattle.lt_runner.proofs.TraceLaws.{few_lines}
use Rattle.lt_runner.proofs.TraceRoomLaws.{few_txns, numbered_txns, most_is_low}
use Rattle.lt_crew.specs.Rounds.{opened, opening_seats}
use Rattle.lt_crew.specs.Caller.{IsCrew, IsCrewOf}
use Rattle.lt_crew.specs.RunCrew.{setting_with, HasRoomFor}
use Rattle.lt_crew.proofs.CrewRunLaws.{rounds_stand}

-- The deeds of a trace fit a table of any number of passes.

fit_again : (trace : TraceView) (passes first : ℕ) (marks : List Key) (deed : LineDeed) → IsFitDeed (setting_of trace 1 first) deed →
    IsFitDeed (setting_with trace passes first marks) deed
fit_again trace passes first marks (Try tree range) fit = fit
fit_again trace passes first marks (Lock tree range) fit = fit
fit_again trace passes first marks End fit = tt
fit_again trace passes first marks Abort fit = tt
fit_again trace passes first marks (Escalate tree) fit = fit
fit_again trace passes first marks Big fit = tt

all_fit : (trace : TraceView) (passes first : ℕ) (marks : List Key) (txns : List ℕ) (lines : List Line) → AllByRecursion (IsFit (setting_of trace 1 first) txns) lines →
    AreFitDeeds (setting_with trace passes first marks) lines
all_fit trace passes first marks txns [] fit = tt
all_fit trace passes first marks txns (line ∷ lines) fit =
    (fit_again trace passes first marks line.deed fit.0.deed, all_fit trace passes first marks txns lines fit.1)

pub fit_deeds : (trace : TraceView) (passes first : ℕ) (marks : List Key) → IsTrace trace → AreFitDeeds (setting_with trace passes first marks) trace.lines
fit_deeds trace passes first marks is_trace = all_fit trace passes first marks (txns_of trace.lines) trace.lines (fit_of_trace trace first is_trace)

plain_line : (setting : Setting) (deed : LineDeed) → IsFitDeed setting deed → IsPlainLine setting deed
plain_line setting (Try tree range) fit = fit.0
plain_line setting (Lock tree range) fit = fit.0
plain_line setting End fit = tt
plain_line setting Abort fit = tt
plain_line setting (Escalate tree) fit = fit
plain_line setting Big fit = tt

plain_lines : (setting : Setting) (txn : ℕ) (lines : List Line) → AllByRecursion (IsFitLine setting txn) lines →
    AllByRecursion (λ line. IsPlainLine setting line.deed) lines
plain_lines setting txn [] fit = tt
plain_lines setting txn (line ∷ lines) fit = (plain_line setting line.deed fit.0.deed, plain_lines setting txn lines fit.1)

-- Its transactions.

seat_fits : (setting : Setting) (txn : ℕ) (lines : List Line) → AreFitDeeds setting lines → 1 ≤ txn →
    IsFitSeat setting (opening_seat setting.plan.trees txn (lines_for txn lines))
seat_fits setting txn lines deeds one =
    let steady = steady_opening setting txn lines deeds in
    record {
      txn = one;
      lines = plain_lines setting txn (lines_for txn lines) steady.lines;
      releases = tt;
      recorded = steady.recorded;
      over = λ o. absurd (let k : false ≡ true = o in cc);
    }

all_seats_fit : (setting : Setting) (lines : List Line) (txns : List ℕ) → AreFitDeeds setting lines → AllByRecursion (λ n. 1 ≤ n) txns →
    AllByRecursion (IsFitSeat setting) (map (λ txn. opening_seat setting.plan.trees txn (lines_for txn lines)) txns)
all_seats_fit setting lines [] deeds some = tt
all_seats_fit setting lines (n ∷ ns) deeds some = (seat_fits setting n lines deeds some.0, all_seats_fit setting lines ns deeds some.1)

all_seated : (trees : ℕ) (lines : List Line) (txns : List ℕ) →
    AllByRecursion IsSeated (map (λ txn. opening_seat trees txn (lines_for txn lines)) txns)
all_seated trees lines [] = tt
all_seated trees lines (n ∷ ns) =
    (record { lock = λ w. absurd (false≢true w); waits = λ l. absurd (false≢true l) }, all_seated trees lines ns)

none_listed : (trees : ℕ) (lines : List Line) (txns : List ℕ) → listed_in (map (λ txn. opening_seat trees txn (lines_for txn lines)) txns) ≡ []
none_listed trees lines [] = refl
none_listed trees lines (n ∷ ns) = none_listed trees lines ns

none_waits : (trees : ℕ) (lines : List Line) (txns : List ℕ) → AllWaitersListed (map (λ txn. opening_seat trees txn (lines_for txn lines)) txns)
none_waits trees lines [] = tt
none_waits trees lines (n ∷ ns) = (refl, none_waits trees lines ns)

pub opening_crew : (setting : Setting) (lines : List Line) → AreFitDeeds setting lines → AllByRecursion (λ n. 1 ≤ n) (txns_of lines) →
    IsCrew setting lines [] [] (opening_seats setting lines)
opening_crew setting lines deeds some =
    let stand = rounds_stand setting lines [] [] (opening_seats setting lines) (opened refl refl refl) in
    record {
      searches = [];
      rounds = opened refl refl refl;
      registered = record {
        sorted = subst (IsStrictlySortedBy nat_cmp) (sym stand.numbers) (ascending_sorted (map (λ (line : Line). line.txn) lines));
        seated = all_seated setting.plan.trees lines (txns_of lines);
        all = sym (none_listed setting.plan.trees lines (txns_of lines));
      };
      fit = all_seats_fit setting lines (txns_of lines) deeds some;
    }

pub seats_count : (trees : ℕ) (lines : List Line) (txns : List ℕ) →
    length (map (λ txn. opening_seat trees txn (lines_for txn lines)) txns) ≡ length txns
seats_count trees lines txns = length-map txns (λ (txn : ℕ). opening_seat trees txn (lines_for txn lines))

-- and what its rounds ask for
pub record IsOpenedCrew (setting : Setting) (seats : List Seat) : Type 0 where
  pub crew : IsCrewOf setting [] [] seats
  pub listed : AllWaitersListed seats
  pub few : length seats ≤ 1024
  pub room : HasRoomFor setting [] seats

opened_here : (trace : TraceView) (passes first : ℕ) (marks : List Key) → IsTrace trace → first ≤ 2 ^ 38 → IsOpenedCrew (setting_with trace passes first marks) (seats_of trace)
opened_here trace passes first marks is_trace low =
    let setting = setting_with trace passes first marks in
    let deeds = fit_deeds trace passes first marks is_trace in
    let header = is_trace.header in
    let trees : trace.trees ≤ 16 = omega arith in
    let txns = few_txns trace is_trace in
    let count = seats_count trace.trees trace.lines (txns_of trace.lines) in
    let one_cost : pass_cost trace.trees (length (seats_of trace)) ≡ pass_cost trace.trees (length (txns_of trace.lines)) =
    ap (pass_cost trace.trees) count in
    let cost : length (txns_of trace.lines) * (trace.trees + 1 + length (txns_of trace.lines)) ≤ 1024 * 1041 =
    mul-le (length (txns_of trace.lines)) (trace.trees + 1 + length (txns_of trace.lines)) 1024 1041 txns (omega (arith, trees, txns)) in
    let most = most_is_low (length trace.lines) (length (txns_of trace.lines)) trace.trees (few_lines trace is_trace) txns trees in
    let few = crews_make_few trace passes first in
    record {
      crew = record { lines = trace.lines; deeds = deeds; crew = opening_crew setting trace.lines deeds (numbered_txns trace is_trace) };
      listed = none_waits trace.trees trace.lines (txns_of trace.lines);
      few = omega (arith, count, txns);
      room = room_is first trace.trees (sum_of (work setting) (seats_of trace)) (sum_of steps (seats_of trace))
          (pass_cost trace.trees (length (seats_of trace))) (pass_cost trace.trees (length (txns_of trace.lines))) (most_events trace)
          one_cost cost most few low trees;
    }
  where
    room_is : (from trees works stepped one_cost cost most : ℕ) → one_cost ≡ cost → cost ≤ 1024 * 1041 → most ≤ 144637053000 →
        works + stepped * cost ≤ most → from ≤ 2 ^ 38 → trees ≤ 16 → from + (0 + works + stepped * one_cost) + trees + one_cost < 2 ^ 39
    room_is from trees works stepped one_cost cost most same few_cost low_most few low few_trees =
        omega (arith, ap (λ (k : ℕ). stepped * k) same, same, few_cost, low_most, few, low, few_trees)

-- the transactions by another name
pub seats_are : (trace : TraceView) (lines : List Line) (trees : ℕ) (seats : List Seat) → lines ≡ trace.lines → trees ≡ trace.trees →
    seats ≡ map (λ txn. opening_seat trees txn (lines_for txn lines)) (txns_of lines) → seats ≡ seats_of trace
seats_are trace lines trees seats all wide is =
    is ∙ ap (λ (ls : List Line). map (λ txn. opening_seat trees txn (lines_for txn ls)) (txns_of ls)) all
    ∙ ap (λ (n : ℕ). map (λ txn. opening_seat n txn (lines_for txn trace.lines)) (txns_of trace.lines)) wide

-- by other names
pub opened_seats : (trace : TraceView) (passes first : ℕ) (marks : List Key) (setting : Setting) (seats : List Seat) →
    setting ≡ setting_with trace passes first marks → seats ≡ seats_of trace → IsTrace trace → first ≤ 2 ^ 38 → IsOpenedCrew setting seats
opened_seats trace passes first marks setting seats same is is_trace low =
    subst (λ (s : Setting). IsOpenedCrew s seats) (sym same)
    (subst (IsOpenedCrew (setting_with trace passes first marks)) (sym is) (opened_here trace passes first marks is_trace low))
