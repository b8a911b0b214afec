-- What a transaction has come to stays while others act, and goes on by a move of its own.
use Rattle.std.proofs.Common.{ℕ, List, [], ◌∷◌, ◌++◌, Bool, sym, ap, subst, ◌∙◌, arith}
use Rattle.lt_seq.specs.declared.event.Event.{Event}
use Rattle.lt_seq.specs.declared.event.Receipt.{Receipt}
use Rattle.lt_seq.specs.Table.{Setting}
use Rattle.lt_seq.specs.History.{IsFront}
use Rattle.lt_seq.specs.Yard.{place_after}
use Rattle.lt_runner.specs.TurnView.{Turn, Seat}
use Rattle.lt_runner.specs.Turn.{Move, leaves, asks, waits, stops, escalates, grows, ends, frees, receipts_in, turn_after}
use Rattle.lt_runner.specs.Plays.{Past, Stage, stage_after, stage_after_all, IsMove}
use Rattle.lt_runner.specs.Played.{IsInside, IsPastAt, HasCome, MovesBy, Search, IsAmong, Fits, IsAtLine}
use Rattle.lt_runner.proofs.PlayLaws.{played_more, played_stays, longer, all_more, after_more, flat_more, all_inside}
use Rattle.lt_runner.proofs.SearchLaws.{listed_still}

pub past_stays : (crew : Bool) (setting : Setting) (history more : List Event) (seat : Seat) (past : Past) → IsPastAt crew setting history seat past → IsPastAt crew setting (history ++ more) seat past
past_stays crew setting history more seat past fits =
    record { seen = (let k = longer setting history more in omega (arith, fits.seen, k)); held = fits.held; left = fits.left; once = fits.once }

-- it stays, whatever events come behind
pub come_stays : (crew : Bool) (setting : Setting) (searches : List Search) (history more : List Event) (opening : Stage) (seat : Seat) (receipts : List Receipt) →
    HasCome crew setting searches history opening seat receipts → HasCome crew setting searches (history ++ more) opening seat receipts
come_stays crew setting searches history more opening seat receipts come = record {
  moves = come.moves;
  played = played_stays crew setting history more opening come.moves come.inside come.played;
  inside = all_inside setting history more come.moves come.inside;
  listed = come.listed;
  own = come.own;
  here = come.here;
  past = past_stays crew setting history more seat (stage_after_all opening come.moves).past come.past;
  made = come.made;
}

pub come_on : (crew : Bool) (setting : Setting) (searches : List Search) (old new : List Event) (opening : Stage) (seat : Seat) (receipts : List Receipt) → IsFront old new →
    HasCome crew setting searches old opening seat receipts → HasCome crew setting searches new opening seat receipts
come_on crew setting searches old new opening seat receipts (more, is) come =
    subst (λ (es : List Event). HasCome crew setting searches es opening seat receipts) (sym is) (come_stays crew setting searches old more opening seat receipts come)

among_still : (searches found : List Search) (from txn : ℕ) (move : Move) → Fits searches found from txn → IsAmong found txn move → IsAmong searches txn move
among_still searches found from txn (leaves joins) fits among = tt
among_still searches found from txn (asks joins ask) fits among = tt
among_still searches found from txn (waits joins ask wishes search_found) fits among = fits.among _ among
among_still searches found from txn (stops joins place rows) fits among = tt
among_still searches found from txn (escalates join) fits among = tt
among_still searches found from txn grows fits among = tt
among_still searches found from txn ends fits among = tt
among_still searches found from txn (frees free) fits among = tt

-- and one move brings it on
pub come_more : (crew : Bool) (setting : Setting) (searches found : List Search) (history more : List Event) (opening : Stage) (old new : Seat) (receipts made : List Receipt) (move : Move) →
    IsAtLine opening → Fits searches found (place_after setting history) opening.turn.txn → IsAmong found opening.turn.txn move → HasCome crew setting searches history opening old receipts →
    MovesBy crew setting history (history ++ more) old new made move → HasCome crew setting searches (history ++ more) opening new (receipts ++ made)
come_more crew setting searches found history more opening old new receipts made move start fits allowed so_far next = record {
  moves = so_far.moves ++ move ∷ [];
  played = played_more crew setting (history ++ more) opening so_far.moves move
      (played_stays crew setting history more opening so_far.moves so_far.inside so_far.played) may;
  inside = all_more (IsInside setting (history ++ more)) so_far.moves move (all_inside setting history more so_far.moves so_far.inside) next.inside;
  listed = listed_still crew setting (history ++ more) opening so_far.moves move (place_after setting history) searches fits.before next.late start may so_far.listed;
  own = all_more (IsAmong searches opening.turn.txn) so_far.moves move so_far.own (among_still searches found (place_after setting history) opening.turn.txn move fits allowed);
  here = ap (λ (s : Stage). s.turn) (after_more opening so_far.moves move) ∙ ap (λ (t : Turn). turn_after t move) so_far.here ∙ sym next.turn;
  past = subst (λ (s : Stage). IsPastAt crew setting (history ++ more) new s.past) (sym (after_more opening so_far.moves move))
      (subst (λ (t : Turn). IsPastAt crew setting (history ++ more) new (stage_after (record { turn = t; past = past }) move).past) (sym so_far.here) (next.past past so_far.past));
  made = flat_more so_far.moves move ∙ ap (λ rs. rs ++ receipts_in move) so_far.made ∙ ap (λ rs. receipts ++ rs) (sym next.made_by);
}
  where
    past : Past
    past = (stage_after_all opening so_far.moves).past

    may : IsMove crew setting (history ++ more) (stage_after_all opening so_far.moves) (stage_after_all opening so_far.moves).turn.lines move
    may = subst (λ (t : Turn). IsMove crew setting (history ++ more) (record { turn = t; past = past }) t.lines move) (sym so_far.here) (next.may past so_far.past)
