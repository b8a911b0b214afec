-- A search misses no circle of those that wait, by what the table holds.
use Rattle.std.proofs.Common.{◌≡◌, ◌≢◌, ℕ, List, [], ◌∷◌, ◌++◌, true, Bool, false, cond, Option, Some, None, refl, sym, ap, subst, ◌∙◌, ◌⊎◌, inl, inr}
use Rattle.std.specs.Prelude.{MatchOption, option_map}
use Rattle.lt_ranges.specs.Interval.{Interval}
use Rattle.lt_ranges.specs.Numbers.{is_in}
use Rattle.lt_waits.specs.Walks.{IsEdge, IsWay, HasNoClosedWalk, IsLeastWalk, least_walk}
use Rattle.lt_waits.proofs.ShortLaws.{least_walk_is}
use Rattle.lt_seq.specs.declared.event.Event.{Event}
use Rattle.lt_seq.specs.declared.event.Reply.{Reply}
use Rattle.lt_seq.specs.declared.event.Reply.TheVariants.{Buffered, HeldBy}
use Rattle.lt_seq.specs.Pairs.{others}
use Rattle.lt_seq.specs.Table.{Setting, TreeState, tree_at, ask_reply, after_ask, is_buffered, reply_by, pairs_by, ended}
use Rattle.lt_seq.specs.History.{after}
use Rattle.lt_seq.specs.Questions.{named_by}
use Rattle.lt_seq.proofs.HistoryLaws.{after_more}
use Rattle.lt_seq.proofs.RefusalLaws.{refused_by}
use Rattle.lt_requests.specs.declared.wish.Wish.{Wish}
use Rattle.lt_requests.specs.declared.cycle.Edge.{Edge}
use Rattle.lt_requests.specs.Registered.{Ascend, is_registered, wish_of}
use Rattle.lt_requests.specs.Search.{wishes_of, searched, edges_in, edges_of}
use Rattle.lt_requests.specs.Started.{reply_of}
use Rattle.lt_requests.specs.Walks.{waits_of, edges_along, cycle_of}
use Rattle.lt_requests.specs.Circles.{holders, WaitsFor, IsWaitWay, IsCircle}
use Rattle.lt_requests.specs.Laws.{alone_ask, held_and_searched}
use Rattle.lt_requests.proofs.ServedLaws.{SamePairs, same_pairs_set, same_holders, found_own, named_is_there, IsListing, first_listing, served, all_served, all_held, all_drawn, drawn, edge_left, edge_right}

-- A held ask.

held_pairs : (b : Bool) (owners found : List ℕ) (one two : TreeState) (t : TreeState) → cond b Buffered (reply_by found) ≡ HeldBy owners →
    (found ≢ [] → two.pairs ≡ t.pairs) → (cond b one two).pairs ≡ t.pairs
held_pairs true owners found one two t said same = absurd (let no : Buffered ≡ HeldBy owners → ⊥ = λ e. cc in no said)
held_pairs false owners [] one two t said same = absurd (let no : reply_by [] ≡ HeldBy owners → ⊥ = λ e. cc in no said)
held_pairs false owners (n ∷ ns) one two t said same = same (λ none. cc)

not_granted : (found : List ℕ) (txn : ℕ) (range : Interval) (t : TreeState) → found ≢ [] → pairs_by found txn range t.pairs ≡ t.pairs
not_granted [] txn range t some = absurd (some refl)
not_granted (n ∷ ns) txn range t some = refl

-- an ask that is held changes no pairs
held_same : (buffer txn : ℕ) (range : Interval) (t : TreeState) (owners : List ℕ) → ask_reply buffer txn range t ≡ HeldBy owners →
    (after_ask buffer txn range t).pairs ≡ t.pairs
held_same buffer txn range t owners said =
    held_pairs (is_buffered buffer txn t.pairs t.mode) owners (others txn range t.pairs) _
    (record { pairs = pairs_by (others txn range t.pairs) txn range t.pairs; mode = ended t.mode }) t said (not_granted (others txn range t.pairs) txn range t)

pub held_trees : (setting : Setting) (txn : ℕ) (events : List Event) (wish : Wish) (owners : List ℕ) →
    reply_of (alone_ask setting events txn wish).event.deed ≡ HeldBy owners →
    SamePairs (after setting (events ++ (alone_ask setting events txn wish).event ∷ [])) (after setting events)
held_trees setting txn events wish owners said i =
    let t = tree_at (after setting events) wish.tree in
    ap (λ trees. (tree_at trees i).pairs) (after_more setting events (alone_ask setting events txn wish).event)
    ∙ same_pairs_set (after setting events) wish.tree (after_ask setting.plan.buffer txn wish.range t) (held_same setting.plan.buffer txn wish.range t owners said) i

-- the owners that an ask was held by hold what it is for behind it, and there is one
pub held_owners : (setting : Setting) (txn : ℕ) (events : List Event) (wish : Wish) (owners : List ℕ) → wish.txn ≡ txn →
    reply_of (alone_ask setting events txn wish).event.deed ≡ HeldBy owners →
    (owners ≡ holders (after setting (events ++ (alone_ask setting events txn wish).event ∷ [])) wish) × (owners ≢ [])
held_owners setting txn events wish owners own said =
    let trees = after setting events in
    let by = refused_by setting.plan.buffer txn wish.range (tree_at trees wish.tree) owners said in (
      by.0 ∙ ap (λ n. others n wish.range (tree_at trees wish.tree).pairs) (sym own)
          ∙ sym (same_holders (after setting (events ++ (alone_ask setting events txn wish).event ∷ [])) trees wish (held_trees setting txn events wish owners said)),
      by.1,
    )

-- The search behind it.

record IsBehind (setting : Setting) (txn : ℕ) (wishes : List Wish) (events : List Event) (wish : Wish) (owners : List ℕ) : Type 0 where
  ascend : Ascend wishes
  waits : wish_of txn wishes ≡ Some wish
  said : reply_of (alone_ask setting events txn wish).event.deed ≡ HeldBy owners

abbrev events_then : Setting → List Event → ℕ → Wish → List Event
events_then setting events txn wish = events ++ (alone_ask setting events txn wish).event ∷ []

abbrev trees_then : Setting → List Event → ℕ → Wish → List TreeState
trees_then setting events txn wish = after setting (events_then setting events txn wish)

-- whom it asks for
abbrev asked_for : Setting → ℕ → List Wish → List Event → Wish → List ℕ → List Wish
asked_for setting txn wishes events wish owners = served setting txn wishes wishes (events_then setting events txn wish) [] (wishes_of owners wishes)

abbrev drawn_by : Setting → ℕ → List Wish → List Event → Wish → List ℕ → List Edge
drawn_by setting txn wishes events wish owners = edges_in wishes (held_and_searched setting txn wishes events (alone_ask setting events txn wish) owners)

-- the transaction itself, or one that is asked for
abbrev IsReached : Setting → ℕ → List Wish → List Event → Wish → List ℕ → ℕ → Type 0
IsReached setting txn wishes events wish owners n = (n ≡ txn) ⊎ (is_registered n (asked_for setting txn wishes events wish owners) ≡ true)

some_wish : (a b : Wish) → Some a ≡ Some b → a ≡ b
some_wish a b e = cc

-- the edges of the ask, and those of the search
parted : (setting : Setting) (txn : ℕ) (wishes : List Wish) (events : List Event) (wish : Wish) (owners : List ℕ) →
    IsBehind setting txn wishes events wish owners →
    drawn_by setting txn wishes events wish owners
    ≡ edges_of txn (alone_ask setting events txn wish).place (wishes_of owners wishes) ++ edges_in wishes (searched setting txn wishes wishes (events_then setting events txn wish) [] (wishes_of owners wishes))
parted setting txn wishes events wish owners is =
    ap (λ (reply : Reply). edges_of txn (alone_ask setting events txn wish).place (wishes_of (named_by reply) wishes)
    ++ edges_in wishes (searched setting txn wishes wishes (events_then setting events txn wish) [] (wishes_of owners wishes))) is.said

-- a step from one that is reached, to one that waits
step_on : (setting : Setting) (txn : ℕ) (wishes : List Wish) (events : List Event) (wish : Wish) (owners : List ℕ) →
    IsBehind setting txn wishes events wish owners →
    (n m : ℕ) (v : Wish) → IsReached setting txn wishes events wish owners n → WaitsFor (trees_then setting events txn wish) wishes n m → wish_of m wishes ≡ Some v →
    IsEdge (waits_of (drawn_by setting txn wishes events wish owners)) n m × IsReached setting txn wishes events wish owners m
step_on setting txn wishes events wish owners is n m v at waits_for waits =
    let both = by_case at in (subst (λ edges. IsEdge (waits_of edges) n m) (sym (parted setting txn wishes events wish owners is)) both.0, both.1)
  where
    of_ask : List Edge
    of_ask = edges_of txn (alone_ask setting events txn wish).place (wishes_of owners wishes)

    of_search : List Edge
    of_search = edges_in wishes (searched setting txn wishes wishes (events_then setting events txn wish) [] (wishes_of owners wishes))

    listing : IsListing wishes wishes [] (wishes_of owners wishes)
    listing = first_listing wishes owners is.ascend

    from_first : n ≡ txn → IsEdge (waits_of (of_ask ++ of_search)) n m × IsReached setting txn wishes events wish owners m
    from_first own =
        let it : wish ≡ waits_for.0 = some_wish wish waits_for.0 (sym is.waits ∙ ap (λ x. wish_of x wishes) (sym own) ∙ waits_for.1) in
        let held = held_owners setting txn events wish owners (found_own txn wish wishes is.waits) is.said in
        let owns : is_in m owners ≡ true = ap (is_in m) (held.0 ∙ ap (holders (trees_then setting events txn wish)) it) ∙ waits_for.2 in
        let there = named_is_there m v owners wishes waits owns in (
          subst (λ x. IsEdge (waits_of (of_ask ++ of_search)) x m) (sym own) (edge_left of_ask of_search txn m (drawn txn (alone_ask setting events txn wish).place m (wishes_of owners wishes) there)),
          inr (all_served setting txn wishes wishes (events_then setting events txn wish) [] (wishes_of owners wishes) is.ascend listing m there),
        )

    from_asked : is_registered n (asked_for setting txn wishes events wish owners) ≡ true →
        IsEdge (waits_of (of_ask ++ of_search)) n m × IsReached setting txn wishes events wish owners m
    from_asked asked = (
      edge_right of_ask of_search n m
          (all_drawn setting txn wishes wishes (events_then setting events txn wish) [] (wishes_of owners wishes) (trees_then setting events txn wish) is.ascend listing (λ i. refl) n m waits_for.0 v asked waits_for.1 waits_for.2 waits),
      all_held setting txn wishes wishes (events_then setting events txn wish) [] (wishes_of owners wishes) (trees_then setting events txn wish) is.ascend listing (λ i. refl) n m waits_for.0 v asked waits_for.1 waits_for.2 waits,
    )

    by_case : IsReached setting txn wishes events wish owners n →
        IsEdge (waits_of (of_ask ++ of_search)) n m × IsReached setting txn wishes events wish owners m
    by_case (inl own) = from_first own
    by_case (inr asked) = from_asked asked

-- whoever goes on waits
goes_on : (trees : List TreeState) (wishes : List Wish) (from : ℕ) (way : List ℕ) (txn : ℕ) (wish : Wish) → wish_of txn wishes ≡ Some wish →
    IsWaitWay trees wishes from way txn → (v : Wish) × (wish_of from wishes ≡ Some v)
goes_on trees wishes from [] txn wish waits is = (wish, ap (λ x. wish_of x wishes) is ∙ waits)
goes_on trees wishes from (next ∷ more) txn wish waits is = ((is.0).0, (is.0).1)

-- a way of those that wait is one by the edges
way_on : (setting : Setting) (txn : ℕ) (wishes : List Wish) (events : List Event) (wish : Wish) (owners : List ℕ) →
    IsBehind setting txn wishes events wish owners →
    (from : ℕ) (way : List ℕ) → IsReached setting txn wishes events wish owners from → IsWaitWay (trees_then setting events txn wish) wishes from way txn →
    IsWay (waits_of (drawn_by setting txn wishes events wish owners)) from way txn
way_on setting txn wishes events wish owners is from [] at way = way
way_on setting txn wishes events wish owners is from (next ∷ more) at way =
    let v = goes_on (trees_then setting events txn wish) wishes next more txn wish is.waits way.1 in
    let one = step_on setting txn wishes events wish owners is from next v.0 at way.0 v.1 in
    (one.0, way_on setting txn wishes events wish owners is next more one.1 way.1)

no_walk : (edges : List Edge) (txn : ℕ) → cycle_of edges txn ≡ None → HasNoClosedWalk (waits_of edges) txn
no_walk edges txn = computed (least_walk (waits_of edges) txn) (least_walk_is (waits_of edges) txn)
  where
    computed : (o : Option (List ℕ)) → MatchOption o (HasNoClosedWalk (waits_of edges) txn) (λ w. IsLeastWalk (waits_of edges) txn w) →
        option_map (λ w. edges_along edges w) o ≡ None → HasNoClosedWalk (waits_of edges) txn
    computed None none e = none
    computed (Some w) is e = absurd (let no : Some (edges_along edges w) ≡ None → ⊥ = λ h. cc in no e)

pub no_circle : (setting : Setting) (txn : ℕ) (wishes : List Wish) (events : List Event) (wish : Wish) (owners : List ℕ) → Ascend wishes →
    wish_of txn wishes ≡ Some wish →
    reply_of (alone_ask setting events txn wish).event.deed ≡ HeldBy owners →
    cycle_of (edges_in wishes (held_and_searched setting txn wishes events (alone_ask setting events txn wish) owners)) txn ≡ None →
    (way : List ℕ) → IsCircle (after setting (events ++ (alone_ask setting events txn wish).event ∷ [])) wishes txn way → ⊥
no_circle setting txn wishes events wish owners ascend waits said none [] circle = circle
no_circle setting txn wishes events wish owners ascend waits said none (next ∷ more) circle =
    let is : IsBehind setting txn wishes events wish owners = record { ascend = ascend; waits = waits; said = said } in
    no_walk (drawn_by setting txn wishes events wish owners) txn none (txn ∷ next ∷ more) (refl, way_on setting txn wishes events wish owners is txn (next ∷ more) (inl refl) circle)
