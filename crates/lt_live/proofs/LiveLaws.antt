-- Transactions come on while the history goes on.
use Rattle.std.proofs.Common.{◌≡◌, ◌≢◌, ℕ, ◌<◌, List, [], ◌∷◌, ◌++◌, map, refl, sym, ap, ◌∙◌, subst, arith, append_assoc, true}
use Rattle.std.specs.List.{AllByRecursion, flat_map}
use Rattle.std.proofs.lemmas.List.{append-nil}
use Rattle.std.proofs.lemmas.List.Elements.{Contains-append_left, Contains-append_right}
use Rattle.lt_seq.specs.declared.event.Event.{Event}
use Rattle.lt_seq.specs.declared.event.Receipt.{Receipt}
use Rattle.lt_seq.specs.Table.{Setting}
use Rattle.lt_seq.specs.History.{IsFront}
use Rattle.lt_seq.specs.Yard.{PassView, place_after}
use Rattle.lt_seq.proofs.HistoryLaws.{front_on, front_itself}
use Rattle.lt_trace.specs.declared.line.Line.{Line}
use Rattle.lt_runner.specs.TurnView.{Seat}
use Rattle.lt_runner.specs.Seats.{opening_seat}
use Rattle.lt_runner.specs.Turn.{Move, leaves, asks, waits, stops, escalates, grows, ends, frees}
use Rattle.lt_runner.specs.Plays.{Stage, stage_after_all, opening_stage, lines_for}
use Rattle.lt_runner.specs.Run.{IsListedRightly, moves_before}
use Rattle.lt_runner.specs.Played.{Search, IsAmong, Fits, HasCome, IsOver}
use Rattle.lt_runner.proofs.ComeLaws.{come_on}
use Rattle.lt_runner.proofs.SearchLaws.{at_line_opening}
use Rattle.lt_live.specs.House.{Hears}
use Rattle.lt_live.specs.Live.{AreOwn, HasComeHere, PlaysHere, PlaysOnAreHere, Block, IsBlock, HasServed, ServesOne}

-- Searches of one transaction.

pub own_append : (txn : ℕ) (xs ys : List Search) → AreOwn txn xs → AreOwn txn ys → AreOwn txn (xs ++ ys)
own_append txn [] ys own more = more
own_append txn (x ∷ xs) ys own more = (own.0, own_append txn xs ys own.1 more)

-- none of them is of another
pub none_other : (P : Search → Type 0) (txn : ℕ) (searches : List Search) → AreOwn txn searches → AllByRecursion (λ s. s.txn ≢ txn → P s) searches
none_other P txn [] own = tt
none_other P txn (s ∷ ss) own = (λ other. absurd (other own.0), none_other P txn ss own.1)

among_more : (searches found : List Search) (txn : ℕ) (move : Move) → IsAmong searches txn move → IsAmong (searches ++ found) txn move
among_more searches found txn (leaves joins) among = tt
among_more searches found txn (asks joins ask) among = tt
among_more searches found txn (waits joins ask wishes search) among = Contains-append_left searches found _ among
among_more searches found txn (stops joins place used_rows) among = tt
among_more searches found txn (escalates join) among = tt
among_more searches found txn grows among = tt
among_more searches found txn ends among = tt
among_more searches found txn (frees free) among = tt

all_among : (searches found : List Search) (txn : ℕ) (moves : List Move) → AllByRecursion (IsAmong searches txn) moves →
    AllByRecursion (IsAmong (searches ++ found) txn) moves
all_among searches found txn [] all = tt
all_among searches found txn (m ∷ ms) all = (among_more searches found txn m all.0, all_among searches found txn ms all.1)

-- more searches of its own may be made
come_wider : (setting : Setting) (searches found : List Search) (history : List Event) (opening : Stage) (seat : Seat) (receipts : List Receipt) →
    AreOwn opening.turn.txn (searches ++ found) → HasCome true setting searches history opening seat receipts →
    HasCome true setting (searches ++ found) history opening seat receipts
come_wider setting searches found history opening seat receipts own come = record {
  moves = come.moves;
  played = come.played;
  inside = come.inside;
  listed = none_other (λ s. IsListedRightly true (stage_after_all opening (moves_before s.place come.moves)) s.wishes) opening.turn.txn
      (searches ++ found) own;
  own = all_among searches found opening.turn.txn come.moves come.own;
  here = come.here;
  past = come.past;
  made = come.made;
}

-- A play on is a play here.

pub plays_here : PlaysOnAreHere
plays_here setting found old new was is own plays = record {
  made = plays.made;
  txn = plays.txn;
  number = plays.goes.number;
  front = plays.goes.front;
  mine = plays.mine;
  own = plays.own;
  comes = λ opening receipts start same come.
      (let all : AreOwn opening.turn.txn (come.0 ++ found) =
      own_append opening.turn.txn come.0 found come.1 (subst (λ (n : ℕ). AreOwn n found) (sym same) own) in
      let fits : Fits (come.0 ++ found) found (place_after setting old.front) opening.turn.txn =
      record {
        before = none_other (λ s. s.place < place_after setting old.front) opening.turn.txn (come.0 ++ found) all;
        among = λ s there. Contains-append_right come.0 found s there;
      } in (
        come.0 ++ found,
        all,
        plays.comes opening receipts (come.0 ++ found) start fits
            (come_wider setting come.0 found old.front opening was receipts all come.2),
      ));
}

pub here_on : (setting : Setting) (old new : List Event) (opening : Stage) (seat : Seat) (receipts : List Receipt) → IsFront old new →
    HasComeHere setting old opening seat receipts → HasComeHere setting new opening seat receipts
here_on setting old new opening seat receipts front (searches, own, come) =
    (searches, own, come_on true setting searches old new opening seat receipts front come)

pub plays_itself : (setting : Setting) (pass : PassView) (seat : Seat) → PlaysHere setting pass pass seat seat
plays_itself setting pass seat = record {
  made = [];
  txn = refl;
  number = refl;
  front = front_itself pass.front;
  mine = sym (append-nil pass.mine);
  own = tt;
  comes = λ opening receipts start same come.
      subst (λ (rs : List Receipt). HasComeHere setting pass.front opening seat rs) (sym (append-nil receipts)) come;
}

pub plays_hears : (setting : Setting) (a b c : PassView) (was is : Seat) → PlaysHere setting a b was is → Hears b c → PlaysHere setting a c was is
plays_hears setting a b c was is plays hears = record {
  made = plays.made;
  txn = plays.txn;
  number = hears.number ∙ plays.number;
  front = front_on a.front b.front c.front plays.front hears.front;
  mine = hears.mine ∙ plays.mine;
  own = plays.own;
  comes = λ opening receipts start same come.
      here_on setting b.front c.front opening is (receipts ++ plays.made) hears.front (plays.comes opening receipts start same come);
}

pub hears_plays : (setting : Setting) (a b c : PassView) (was is : Seat) → Hears a b → PlaysHere setting b c was is → PlaysHere setting a c was is
hears_plays setting a b c was is hears plays = record {
  made = plays.made;
  txn = plays.txn;
  number = plays.number ∙ hears.number;
  front = front_on a.front b.front c.front hears.front plays.front;
  mine = plays.mine ∙ ap (λ rs. rs ++ plays.made) hears.mine;
  own = plays.own;
  comes = λ opening receipts start same come.
      plays.comes opening receipts start same (here_on setting a.front b.front opening was receipts hears.front come);
}

all_append : (P : Receipt → Type 0) (xs ys : List Receipt) → AllByRecursion P xs → AllByRecursion P ys → AllByRecursion P (xs ++ ys)
all_append P [] ys all more = more
all_append P (x ∷ xs) ys all more = (all.0, all_append P xs ys all.1 more)

pub plays_more : (setting : Setting) (a b c : PassView) (was between is : Seat) → PlaysHere setting a b was between →
    PlaysHere setting b c between is → PlaysHere setting a c was is
plays_more setting a b c was between is one two = record {
  made = one.made ++ two.made;
  txn = two.txn ∙ one.txn;
  number = two.number ∙ one.number;
  front = front_on a.front b.front c.front one.front two.front;
  mine = two.mine ∙ ap (λ rs. rs ++ two.made) one.mine ∙ append_assoc a.mine one.made two.made;
  own = all_append (λ r. r.event.txn ≡ was.turn.txn) one.made two.made one.own
      (subst (λ (n : ℕ). AllByRecursion (λ r. r.event.txn ≡ n) two.made) one.txn two.own);
  comes = λ opening receipts start same come.
      subst (λ (rs : List Receipt). HasComeHere setting c.front opening is rs) (append_assoc receipts one.made two.made)
      (two.comes opening (receipts ++ one.made) start (same ∙ sym one.txn) (one.comes opening receipts start same come));
}

-- a transaction before its first line
pub begun : (setting : Setting) (history : List Event) (txn : ℕ) (lines : List Line) →
    HasCome true setting [] history (opening_stage setting txn lines) (opening_seat setting.plan.trees txn lines) []
begun setting history txn lines = record {
  moves = [];
  played = tt;
  inside = tt;
  listed = tt;
  own = tt;
  here = refl;
  past = record { seen = omega arith; held = λ e. refl; left = λ e. refl; once = λ e. omega arith };
  made = refl;
}

pub come_opening : (setting : Setting) (history : List Event) (txn : ℕ) (lines : List Line) →
    HasComeHere setting history (opening_stage setting txn lines) (opening_seat setting.plan.trees txn lines) []
come_opening setting history txn lines = ([], tt, begun setting history txn lines)

-- one that was played from its first line to its end
pub serves_one : (setting : Setting) (lines : List Line) (old new : PassView) (were : List Seat) (txn : ℕ) (opened is : Seat) →
    opened ≡ opening_seat setting.plan.trees txn (lines_for txn lines) → PlaysHere setting old new opened is → IsOver is →
    ServesOne setting lines old new were (were ++ is ∷ []) txn
serves_one setting lines old new were txn opened is at plays over =
    let stage = opening_stage setting txn (lines_for txn lines) in
    let opened_txn : opened.turn.txn ≡ txn = ap (λ (s : Seat). s.turn.txn) at in
    let same : is.turn.txn ≡ txn = plays.txn ∙ opened_txn in
    let from : HasComeHere setting old.front stage opened [] =
    subst (λ (s : Seat). HasComeHere setting old.front stage s []) (sym at) (come_opening setting old.front txn (lines_for txn lines)) in
    let came : HasComeHere setting new.front stage is plays.made =
    plays.comes stage [] (at_line_opening setting txn (lines_for txn lines)) (sym opened_txn) from in
    record {
      block = record { seat = is; made = plays.made };
      txn_is = same;
      turns_are = refl;
      number = plays.number;
      front = plays.front;
      mine = plays.mine;
      is = record {
        come = subst (λ (n : ℕ). HasComeHere setting new.front (opening_stage setting n (lines_for n lines)) is plays.made) (sym same) came;
        over = over;
        own = subst (λ (n : ℕ). AllByRecursion (λ r. r.event.txn ≡ n) plays.made) (sym plays.txn) plays.own;
      };
    }

-- What a worker has done goes on.

pub block_on : (setting : Setting) (lines : List Line) (old new : List Event) (block : Block) → IsFront old new →
    IsBlock setting lines old block → IsBlock setting lines new block
block_on setting lines old new b front is = record {
  come = here_on setting old new (opening_stage setting b.seat.turn.txn (lines_for b.seat.turn.txn lines)) b.seat b.made front is.come;
  over = is.over;
  own = is.own;
}

pub blocks_on : (setting : Setting) (lines : List Line) (old new : List Event) (blocks : List Block) → IsFront old new →
    AllByRecursion (IsBlock setting lines old) blocks → AllByRecursion (IsBlock setting lines new) blocks
blocks_on setting lines old new [] front all = tt
blocks_on setting lines old new (b ∷ bs) front all =
    (block_on setting lines old new b front all.0, blocks_on setting lines old new bs front all.1)

-- one that has only heard of others has served none
pub served_nothing : (setting : Setting) (lines : List Line) (old new : PassView) → Hears old new → HasServed setting lines old new []
served_nothing setting lines old new hears = record {
  blocks = [];
  turns_are = refl;
  number = hears.number;
  front = hears.front;
  mine = hears.mine ∙ sym (append-nil old.mine);
  each = tt;
}

pub served_itself : (setting : Setting) (lines : List Line) (pass : PassView) → HasServed setting lines pass pass []
served_itself setting lines pass =
    served_nothing setting lines pass pass (record { number = refl; mine = refl; notes = refl; front = front_itself pass.front })

pub served_hears : (setting : Setting) (lines : List Line) (a b c : PassView) (turns : List Seat) → HasServed setting lines a b turns → Hears b c →
    HasServed setting lines a c turns
served_hears setting lines a b c turns served hears = record {
  blocks = served.blocks;
  turns_are = served.turns_are;
  number = hears.number ∙ served.number;
  front = front_on a.front b.front c.front served.front hears.front;
  mine = hears.mine ∙ served.mine;
  each = blocks_on setting lines b.front c.front served.blocks hears.front served.each;
}

pub served_from : (setting : Setting) (lines : List Line) (a b c : PassView) (turns : List Seat) → Hears a b → HasServed setting lines b c turns →
    HasServed setting lines a c turns
served_from setting lines a b c turns hears served = record {
  blocks = served.blocks;
  turns_are = served.turns_are;
  number = served.number ∙ hears.number;
  front = front_on a.front b.front c.front hears.front served.front;
  mine = served.mine ∙ ap (λ rs. rs ++ flat_map (λ (x : Block). x.made) served.blocks) hears.mine;
  each = served.each;
}

map_append : (bs : List Block) (b : Block) → map (λ (x : Block). x.seat) (bs ++ b ∷ []) ≡ map (λ (x : Block). x.seat) bs ++ b.seat ∷ []
map_append [] b = refl
map_append (x ∷ xs) b = ap (λ ss. x.seat ∷ ss) (map_append xs b)

flat_append : (bs : List Block) (b : Block) →
    flat_map (λ (x : Block). x.made) (bs ++ b ∷ []) ≡ flat_map (λ (x : Block). x.made) bs ++ b.made
flat_append [] b = append-nil b.made
flat_append (x ∷ xs) b = ap (λ rs. x.made ++ rs) (flat_append xs b)
    ∙ sym (append_assoc x.made (flat_map (λ (y : Block). y.made) xs) b.made)

each_append : (P : Block → Type 0) (bs : List Block) (b : Block) → AllByRecursion P bs → P b → AllByRecursion P (bs ++ b ∷ [])
each_append P [] b all one = (one, tt)
each_append P (x ∷ xs) b all one = (all.0, each_append P xs b all.1 one)

-- one transaction more
pub served_more : (setting : Setting) (lines : List Line) (a b c : PassView) (were are : List Seat) (txn : ℕ) → HasServed setting lines a b were →
    ServesOne setting lines b c were are txn → HasServed setting lines a c are
served_more setting lines a b c were are txn served one = record {
  blocks = served.blocks ++ one.block ∷ [];
  turns_are = map_append served.blocks one.block ∙ ap (λ ss. ss ++ one.block.seat ∷ []) served.turns_are ∙ sym one.turns_are;
  number = one.number ∙ served.number;
  front = front_on a.front b.front c.front served.front one.front;
  mine = one.mine ∙ ap (λ rs. rs ++ one.block.made) served.mine
      ∙ append_assoc a.mine (flat_map (λ (x : Block). x.made) served.blocks) one.block.made
      ∙ ap (λ rs. a.mine ++ rs) (sym (flat_append served.blocks one.block));
  each = each_append (IsBlock setting lines c.front) served.blocks one.block
      (blocks_on setting lines b.front c.front served.blocks one.front served.each) one.is;
}

numbers_append : (were : List Seat) (seat : Seat) →
    map (λ (s : Seat). s.turn.txn) (were ++ seat ∷ []) ≡ map (λ (s : Seat). s.turn.txn) were ++ seat.turn.txn ∷ []
numbers_append [] seat = refl
numbers_append (s ∷ ss) seat = ap (λ ns. s.turn.txn ∷ ns) (numbers_append ss seat)

-- its number stands behind those of the others
pub numbers_more : (setting : Setting) (lines : List Line) (old new : PassView) (were are : List Seat) (txn : ℕ) →
    ServesOne setting lines old new were are txn → map (λ (s : Seat). s.turn.txn) are ≡ map (λ (s : Seat). s.turn.txn) were ++ txn ∷ []
numbers_more setting lines old new were are txn one =
    ap (map (λ (s : Seat). s.turn.txn)) one.turns_are ∙ numbers_append were one.block.seat
    ∙ ap (λ n. map (λ (s : Seat). s.turn.txn) were ++ n ∷ []) one.txn_is
