-- Steps of the walks through the last rows.
use Rattle.std.proofs.Common.{◌≡◌, ◌≢◌, ◌⊎◌, ℕ, ◌+◌, ◌-◌, ◌*◌, ◌<◌, ◌≤◌, List, [], ◌∷◌, ◌++◌, map, length, refl, sym, ap, ◌∙◌, subst, arith, append_assoc, length-append, inl, inr}
use Rattle.std.proofs.lemmas.List.{append-nil, map-append, length-map}
use Rattle.lt_ranges.specs.Interval.{Interval, IsInterval}
use Rattle.lt_seq.specs.declared.event.Pair.{Pair}
use Rattle.lt_seq.specs.declared.event.Held.{Held}
use Rattle.std.specs.Prelude.{not}
use Rattle.lt_seq.specs.Pairs.{granted, freed, is_own}
use Rattle.lt_seq.specs.Sound.{AllOwn}
use Rattle.lt_seq.specs.Table.{held_in}
use Rattle.lt_seq.proofs.SpanLaws.{lawful-granted}
use Rattle.lt_seq.proofs.LawfulLaws.{own-filter, own-with_pair, others_none}
use Rattle.lt_forest.specs.Trees.{Tree, leaf, node, Nodes, LeadsTo, in_order, pair_of, pairs_in}
use Rattle.lt_forest.specs.Forest.{IsChain, folded}
use Rattle.lt_rows.specs.LastWords.{AllBelow, AreRows}
use Rattle.lt_rows.specs.Walks.{Waiting, AllWait, behind, InTree, InChain, InGrants}

-- numbers below another

pub below_left : (n : ℕ) (xs ys : List ℕ) → AllBelow n (xs ++ ys) → AllBelow n xs
below_left n [] ys all = tt
below_left n (x ∷ xs) ys all = (all.0, below_left n xs ys all.1)

pub below_right : (n : ℕ) (xs ys : List ℕ) → AllBelow n (xs ++ ys) → AllBelow n ys
below_right n [] ys all = all
below_right n (x ∷ xs) ys all = below_right n xs ys all.1

-- a link leads along one chain, and to one tree

pub tree_once : (c : Nodes) (link : ℕ) (t u : Tree) → LeadsTo c link t → LeadsTo c link u → t ≡ u
tree_once c link leaf leaf one other = refl
tree_once c link leaf (node a r b) one other = let h = other.0 in absurd (omega arith)
tree_once c link (node a r b) leaf one other = let h = one.0 in absurd (omega arith)
tree_once c link (node a r b) (node d s e) one other =
    let h = one.0 in
    let k = other.0 in
    let same : s ≡ r = omega arith in
    let left : a ≡ d = tree_once c (c r).left a d one.1 (subst (λ q. LeadsTo c (c q).left d) same other.1) in
    let right : b ≡ e = tree_once c (c r).right b e one.2 (subst (λ q. LeadsTo c (c q).right e) same other.2) in
    λ i. node (left i) (sym same i) (right i)

-- along a chain

pub record ChainStep (c : Nodes) (rows first link row : ℕ) (seen : List ℕ) : Type 0 where
  pub below : row < rows
  pub room : length seen < rows
  pub next : InChain c rows first (c row).left (seen ++ row ∷ [])

pub chain_step : {c : Nodes} {rows first link : ℕ} {seen : List ℕ} (row : ℕ) → InChain c rows first link seen → link ≢ 0 → row ≡ link - 1
    → ChainStep c rows first link row seen
chain_step {c = c} {rows = rows} {first = first} {link = link} {seen = seen} row walk some is = by_rest walk.rest walk.leads walk.order
  where
    by_rest : (rest : List ℕ) → IsChain c link rest → seen ++ rest ≡ walk.whole → ChainStep c rows first link row seen
    by_rest [] leads order = absurd (some leads)
    by_rest (r ∷ rest) leads order =
        let same : r ≡ row = (let h = leads.0 in omega arith) in
        let below = below_right rows seen (r ∷ rest) (subst (AllBelow rows) (sym order) walk.whole_rows.below) in
        let few = walk.whole_rows.few in
        let long : length seen + length (r ∷ rest) ≡ length walk.whole = sym (length-append seen (r ∷ rest)) ∙ ap length order in
        record {
          below = subst (λ q. q < rows) same below.0;
          room = omega arith;
          next = record {
            whole = walk.whole;
            whole_leads = walk.whole_leads;
            whole_rows = walk.whole_rows;
            rest = rest;
            leads = subst (λ q. IsChain c (c q).left rest) same leads.1;
            order = ap (λ q. (seen ++ q ∷ []) ++ rest) (sym same) ∙ (append_assoc seen (r ∷ []) rest ∙ order);
          };
        }

pub chain_seen : {c : Nodes} {rows first link : ℕ} {seen : List ℕ} → InChain c rows first link seen → link ≡ 0 → IsChain c first seen × AllBelow rows seen
chain_seen {c = c} {rows = rows} {first = first} {link = link} {seen = seen} walk none = by_rest walk.rest walk.leads walk.order
  where
    by_rest : (rest : List ℕ) → IsChain c link rest → seen ++ rest ≡ walk.whole → IsChain c first seen × AllBelow rows seen
    by_rest [] leads order =
        let all : seen ≡ walk.whole = sym (append-nil seen) ∙ order in
        (subst (IsChain c first) (sym all) walk.whole_leads, subst (AllBelow rows) (sym all) walk.whole_rows.below)
    by_rest (r ∷ rest) leads order = let h = leads.0 in absurd (omega arith)

-- back from a chain's end

pub own_granted : (txn : ℕ) (range : Interval) (pairs : List Pair) → AllOwn txn pairs → AllOwn txn (granted txn range pairs)
own_granted txn range pairs own = own-with_pair txn _ (freed txn range pairs) refl (own-filter (λ p. not (is_own txn range p)) txn pairs own)

pub no_grants : (c : Nodes) (rows txn : ℕ) (whole : List ℕ) → AllBelow rows whole → InGrants c rows txn whole whole []
no_grants c rows txn whole below =
    record { done = []; order = append-nil whole; below = below; pairs_are = refl; lawful = tt; owned = tt; unopposed = λ range. refl }

pub record GrantStep (c : Nodes) (rows txn row : ℕ) (whole front : List ℕ) (pairs : List Pair) : Type 0 where
  pub below : row < rows
  pub next : InGrants c rows txn whole front (granted txn (c row).range pairs)

pub grant_step : {c : Nodes} {rows txn : ℕ} {whole still : List ℕ} {pairs : List Pair} (front : List ℕ) (row : ℕ) → InGrants c rows txn whole still pairs
    → still ≡ front ++ row ∷ [] → ((r : ℕ) → IsInterval (c r).range) → GrantStep c rows txn row whole front pairs
grant_step {c = c} {rows = rows} {txn = txn} {whole = whole} {pairs = pairs} front row walk is intervals =
    let below = subst (AllBelow rows) is walk.below in
    let owned = own_granted txn (c row).range pairs walk.owned in
    record {
      below = (below_right rows front (row ∷ []) below).0;
      next = record {
        done = row ∷ walk.done;
        order = sym (append_assoc front (row ∷ []) walk.done) ∙ (ap (λ l. l ++ walk.done) (sym is) ∙ walk.order);
        below = below_left rows front (row ∷ []) below;
        pairs_are = ap (granted txn (c row).range) walk.pairs_are;
        lawful = lawful-granted txn (c row).range pairs (intervals row) walk.lawful (walk.unopposed (c row).range);
        owned = owned;
        unopposed = λ range. others_none txn range (granted txn (c row).range pairs) owned;
      };
    }

pub grants_done : {c : Nodes} {rows txn : ℕ} {whole still : List ℕ} {pairs : List Pair} → InGrants c rows txn whole still pairs → still ≡ []
    → pairs ≡ folded txn c whole
grants_done {c = c} {txn = txn} walk none = walk.pairs_are ∙ ap (folded txn c) (ap (λ l. l ++ walk.done) (sym none) ∙ walk.order)

-- through a tree

behind-more : (ws : List Waiting) (w : Waiting) → behind (ws ++ w ∷ []) ≡ (w.row ∷ in_order w.right) ++ behind ws
behind-more [] w = sym (append-nil (w.row ∷ in_order w.right))
behind-more (v ∷ ws) w =
    ap (λ l. l ++ v.row ∷ in_order v.right) (behind-more ws w) ∙ append_assoc (w.row ∷ in_order w.right) (behind ws) (v.row ∷ in_order v.right)

wait-more : (c : Nodes) (ws : List Waiting) (w : Waiting) → AllWait c ws → LeadsTo c (c w.row).right w.right → AllWait c (ws ++ w ∷ [])
wait-more c [] w all leads = (leads, tt)
wait-more c (v ∷ ws) w all leads = (all.0, wait-more c ws w all.1 leads)

-- the last of those that wait
record Nearest (c : Nodes) (above : List ℕ) (row : ℕ) (waiting : List Waiting) : Type 0 where
  pub others : List Waiting
  pub last : Waiting
  pub is : waiting ≡ others ++ last ∷ []
  pub row_is : last.row ≡ row
  pub above_are : above ≡ map (λ w. w.row) others
  pub rights : AllWait c others
  pub leads : LeadsTo c (c last.row).right last.right

nearest : (c : Nodes) (above : List ℕ) (row : ℕ) (ws : List Waiting) → above ++ row ∷ [] ≡ map (λ w. w.row) ws → AllWait c ws → Nearest c above row ws
nearest c [] row [] e all = absurd (cons_none _ _ e)
  where
    cons_none : (x : ℕ) (xs : List ℕ) → x ∷ xs ≡ [] → ⊥
    cons_none x xs k = cc
nearest c (x ∷ xs) row [] e all = absurd (cons_none _ _ e)
  where
    cons_none : (y : ℕ) (ys : List ℕ) → y ∷ ys ≡ [] → ⊥
    cons_none y ys k = cc
nearest c [] row (w ∷ []) e all = record {
  others = [];
  last = w;
  is = refl;
  row_is = (let h : row ≡ w.row = cc in sym h);
  above_are = refl;
  rights = tt;
  leads = all.0;
}
nearest c [] row (w ∷ v ∷ ws) e all = absurd (long row w.row (v.row) (map (λ u. u.row) ws) e)
  where
    long : (a b d : ℕ) (l : List ℕ) → a ∷ [] ≡ b ∷ d ∷ l → ⊥
    long a b d l k = let h = ap length k in omega arith
nearest c (x ∷ xs) row (w ∷ ws) e all =
    let h = halves x w.row (xs ++ row ∷ []) (map (λ u. u.row) ws) e in
    let rest = nearest c xs row ws h.1 all.1 in
    record {
      others = w ∷ rest.others;
      last = rest.last;
      is = ap (λ l. w ∷ l) rest.is;
      row_is = rest.row_is;
      above_are = (λ i. h.0 i ∷ rest.above_are i);
      rights = (all.0, rest.rights);
      leads = rest.leads;
    }
  where
    halves : (a b : ℕ) (l m : List ℕ) → a ∷ l ≡ b ∷ m → (a ≡ b) × (l ≡ m)
    halves a b l m k = (cc, cc)

length-behind : (ws : List Waiting) → length ws ≤ length (behind ws)
length-behind [] = omega arith
length-behind (w ∷ ws) =
    let h = length-behind ws in
    omega (arith, length-append (behind ws) (w.row ∷ in_order w.right))

-- how far the walk is from its end: each row is gone into once and seen once
pub record TreeRoom (rows : ℕ) (before : List Held) (above : List ℕ) (left : List Held) : Type 0 where
  pub longer : length before ≤ length left
  pub room : 2 * (length left - length before) + length above < 2 * rows

length-held : (number : ℕ) (pairs : List Pair) → length (held_in number pairs) ≡ length pairs
length-held number pairs = length-map pairs _

tree_room : {c : Nodes} {rows top number link : ℕ} {before left : List Held} {above : List ℕ} → InTree c rows top number before link above left
    → (link ≢ 0) ⊎ (0 < length above) → TreeRoom rows before above left
tree_room {c = c} {rows = rows} {number = number} {link = link} {before = before} {left = left} {above = above} walk more =
    let few = walk.whole_rows.few in
    let seen_long : length left ≡ length before + length walk.seen =
    ap length walk.left_are ∙ (length-append before (held_in number (map (pair_of c) walk.seen))
    ∙ ap (λ n. length before + n) (length-held number (map (pair_of c) walk.seen) ∙ length-map walk.seen (pair_of c))) in
    let long : length walk.seen + (length (in_order walk.next) + length (behind walk.waiting)) ≡ length (in_order walk.whole) =
    sym (length-append walk.seen (in_order walk.next ++ behind walk.waiting) ∙ ap (λ n. length walk.seen + n) (length-append (in_order walk.next) (behind walk.waiting))) ∙ ap length walk.order in
    let above_long : length above ≡ length walk.waiting = ap length walk.above_are ∙ length-map walk.waiting _ in
    let wait_long = length-behind walk.waiting in
    record { longer = omega arith; room = by_more more (some_next walk.next walk.leads) seen_long long above_long wait_long few }
  where
    some_next : (t : Tree) → LeadsTo c link t → link ≢ 0 → 0 < length (in_order t)
    some_next leaf leads some = absurd (some leads)
    some_next (node a r b) leads some = omega (arith, length-append (in_order a) (r ∷ in_order b))

    by_more : (link ≢ 0) ⊎ (0 < length above) → (link ≢ 0 → 0 < length (in_order walk.next)) → length left ≡ length before + length walk.seen
        → length walk.seen + (length (in_order walk.next) + length (behind walk.waiting)) ≡ length (in_order walk.whole)
        → length above ≡ length walk.waiting → length walk.waiting ≤ length (behind walk.waiting) → length (in_order walk.whole) ≤ rows
        → 2 * (length left - length before) + length above < 2 * rows
    by_more (inl some) next a b d e f = let h = next some in omega arith
    by_more (inr some) next a b d e f = omega arith

pub record DownStep (c : Nodes) (rows top number row : ℕ) (before : List Held) (above : List ℕ) (left : List Held) : Type 0 where
  pub below : row < rows
  pub room : TreeRoom rows before above left
  pub next : InTree c rows top number before (c row).left (above ++ row ∷ []) left

-- to the left of a row, which waits
pub down_step : {c : Nodes} {rows top number link : ℕ} {before left : List Held} {above : List ℕ} (row : ℕ) → InTree c rows top number before link above left
    → link ≢ 0 → row ≡ link - 1 → DownStep c rows top number row before above left
down_step {c = c} {rows = rows} {top = top} {number = number} {link = link} {before = before} {left = left} {above = above} row walk some is =
    by_tree walk.next walk.leads walk.order
  where
    by_tree : (t : Tree) → LeadsTo c link t → walk.seen ++ (in_order t ++ behind walk.waiting) ≡ in_order walk.whole
        → DownStep c rows top number row before above left
    by_tree leaf leads order = absurd (some leads)
    by_tree (node a r b) leads order =
        let same : r ≡ row = (let h = leads.0 in omega arith) in
        let new : Waiting = record { row = row; right = b } in
        let here : in_order a ++ ((row ∷ in_order b) ++ behind walk.waiting) ≡ in_order (node a r b) ++ behind walk.waiting =
        ap (λ q. in_order a ++ ((q ∷ in_order b) ++ behind walk.waiting)) (sym same) ∙ sym (append_assoc (in_order a) (r ∷ in_order b) (behind walk.waiting)) in
        let ahead : walk.seen ++ (in_order a ++ behind (walk.waiting ++ new ∷ [])) ≡ in_order walk.whole =
        ap (λ l. walk.seen ++ (in_order a ++ l)) (behind-more walk.waiting new) ∙ (ap (λ l. walk.seen ++ l) here ∙ order) in
        let below = below_right rows (in_order a) ((row ∷ in_order b) ++ behind walk.waiting)
        (below_right rows walk.seen (in_order a ++ ((row ∷ in_order b) ++ behind walk.waiting))
        (subst (AllBelow rows) (sym (ap (λ l. walk.seen ++ l) here ∙ order)) walk.whole_rows.below)) in
        record {
          below = below.0;
          room = tree_room walk (inl some);
          next = record {
            whole = walk.whole;
            whole_leads = walk.whole_leads;
            whole_rows = walk.whole_rows;
            seen = walk.seen;
            next = a;
            leads = subst (λ q. LeadsTo c (c q).left a) same leads.1;
            waiting = walk.waiting ++ new ∷ [];
            above_are = ap (λ l. l ++ row ∷ []) walk.above_are ∙ sym (map-append (λ (w : Waiting). w.row) walk.waiting (new ∷ []));
            rights = wait-more c walk.waiting new walk.rights (subst (λ q. LeadsTo c (c q).right b) same leads.2);
            order = ahead;
            left_are = walk.left_are;
          };
        }

pub record UpStep (c : Nodes) (rows top number row : ℕ) (before : List Held) (above above_then : List ℕ) (left : List Held) : Type 0 where
  pub below : row < rows
  pub room : TreeRoom rows before above left
  pub next : InTree c rows top number before (c row).right above_then (left ++ held_in number (pair_of c row ∷ []))

-- the nearest row that waits is seen, and what is to its right comes next
pub up_step : {c : Nodes} {rows top number link : ℕ} {before left : List Held} {above : List ℕ} (above_then : List ℕ) (row : ℕ)
    → InTree c rows top number before link above left → link ≡ 0 → above ≡ above_then ++ row ∷ []
    → UpStep c rows top number row before above above_then left
up_step {c = c} {rows = rows} {top = top} {number = number} {link = link} {before = before} {left = left} {above = above} above_then row walk none is =
    by_tree walk.next walk.leads walk.order
  where
    some_above : 0 < length above
    some_above = let h = ap length is in omega (arith, length-append above_then (row ∷ []))

    by_tree : (t : Tree) → LeadsTo c link t → walk.seen ++ (in_order t ++ behind walk.waiting) ≡ in_order walk.whole
        → UpStep c rows top number row before above above_then left
    by_tree (node a r b) leads order = let h = leads.0 in absurd (omega arith)
    by_tree leaf leads order =
        let n = nearest c above_then row walk.waiting (sym is ∙ walk.above_are) walk.rights in
        let b = n.last.right in
        let here : behind walk.waiting ≡ row ∷ (in_order b ++ behind n.others) =
        ap behind n.is ∙ (behind-more n.others n.last ∙ ap (λ q. q ∷ (in_order b ++ behind n.others)) n.row_is) in
        let ahead : (walk.seen ++ row ∷ []) ++ (in_order b ++ behind n.others) ≡ in_order walk.whole =
        append_assoc walk.seen (row ∷ []) (in_order b ++ behind n.others) ∙ (ap (λ l. walk.seen ++ l) (sym here) ∙ order) in
        let below = below_right rows walk.seen (row ∷ (in_order b ++ behind n.others))
        (subst (AllBelow rows) (sym (ap (λ l. walk.seen ++ l) (sym here) ∙ order)) walk.whole_rows.below) in
        record {
          below = below.0;
          room = tree_room walk (inr some_above);
          next = record {
            whole = walk.whole;
            whole_leads = walk.whole_leads;
            whole_rows = walk.whole_rows;
            seen = walk.seen ++ row ∷ [];
            next = b;
            leads = subst (λ q. LeadsTo c (c q).right b) n.row_is n.leads;
            waiting = n.others;
            above_are = n.above_are;
            rights = n.rights;
            order = ahead;
            left_are =
                ap (λ l. l ++ held_in number (pair_of c row ∷ [])) walk.left_are
                ∙ (append_assoc before (held_in number (map (pair_of c) walk.seen)) (held_in number (pair_of c row ∷ []))
                ∙ ap (λ l. before ++ l) (sym (ap (held_in number) (map-append (pair_of c) walk.seen (row ∷ []))
                ∙ map-append _ (map (pair_of c) walk.seen) (pair_of c row ∷ []))));
          };
        }

-- at the end all rows are seen
pub tree_seen : {c : Nodes} {rows top number link : ℕ} {before left : List Held} {above : List ℕ} → InTree c rows top number before link above left
    → link ≡ 0 → above ≡ [] → (t : Tree) → LeadsTo c top t → left ≡ before ++ held_in number (pairs_in c t)
tree_seen {c = c} {top = top} {number = number} {link = link} {before = before} {left = left} walk none empty t leads =
    walk.left_are ∙ ap (λ l. before ++ held_in number (map (pair_of c) l)) (all walk.next walk.leads walk.order (no_waiting walk.waiting (sym empty ∙ walk.above_are))
    ∙ ap in_order (tree_once c top walk.whole t walk.whole_leads leads))
  where
    no_waiting : (ws : List Waiting) → [] ≡ map (λ w. w.row) ws → behind ws ≡ []
    no_waiting [] e = refl
    no_waiting (w ∷ ws) e = absurd (cons_none _ _ (sym e))
      where
        cons_none : (x : ℕ) (xs : List ℕ) → x ∷ xs ≡ [] → ⊥
        cons_none x xs k = cc

    all : (next : Tree) → LeadsTo c link next → walk.seen ++ (in_order next ++ behind walk.waiting) ≡ in_order walk.whole → behind walk.waiting ≡ []
        → walk.seen ≡ in_order walk.whole
    all leaf ends order e = sym (append-nil walk.seen) ∙ (ap (λ l. walk.seen ++ l) (sym e) ∙ order)
    all (node a r b) ends order e = let h = ends.0 in absurd (omega arith)

pub tree_begun : {c : Nodes} {rows top number : ℕ} {before : List Held} (t : Tree) → LeadsTo c top t → AreRows rows (in_order t)
    → InTree c rows top number before top [] before
tree_begun {before = before} t leads are = record {
  whole = t;
  whole_leads = leads;
  whole_rows = are;
  seen = [];
  next = t;
  leads = leads;
  waiting = [];
  above_are = refl;
  rights = tt;
  order = append-nil (in_order t);
  left_are = sym (append-nil before);
}
