-- What a pass holds and plans is true of the forest: parts, plans for events, and changes of layout.
use Rattle.std.proofs.Common.{◌≡◌, ◌≢◌, inl, inr, ℕ, ◌+◌, ◌<◌, List, [], ◌∷◌, ◌++◌, refl, sym, ap, ◌∙◌, subst, arith}
use Rattle.std.specs.Prelude.{None}
use mathlib.Core.Logic.{dite}
use native.Mathlib.Decide.{ℕ_discrete}
use Rattle.lt_ranges.specs.Interval.{Interval}
use Rattle.lt_seq.specs.declared.event.Pair.{Pair}
use Rattle.lt_seq.specs.declared.event.Mode.{Mode}
use Rattle.lt_seq.specs.declared.event.Mode.TheVariants.{Tree as TreeMode, Buffer}
use Rattle.lt_seq.specs.declared.event.Deed.{Deed}
use Rattle.lt_seq.specs.Pairs.{IsLawful}
use Rattle.lt_seq.specs.Sound.{AllSound}
use Rattle.lt_seq.specs.Table.{Setting, TreeState, tree_after, replied, tree_of}
use Rattle.lt_forest.specs.Counts.{times}
use Rattle.lt_forest.specs.Pairs.{Has}
use Rattle.lt_forest.specs.Trees.{Node, Nodes, in_order, pairs_in}
use Rattle.lt_forest.specs.Cuts.{Cut, end, held, Shows, bare, End, ends, Looser, AllAside}
use Rattle.lt_forest.specs.Forest.{Forest, IsTree, IsRun, IsForest, ChangesOnly, KeepsModes}
use Rattle.lt_forest.specs.Plans.{after_deed, IsReplied, Top, from_anchor, from_row, top_link, IsInGap, IsSeen, KeepsLink, IsPart, IsClosedFor, MovesPool, Lays, range_of, ShowsDeed, Relaid, ReplacedPart}
use Rattle.lt_forest.specs.Views.{Agrees, IsView, AllHeld, PlansOnly, PlansModes, SameMode, TopHeld, TopStays, HoldsPart, PoolPlan, no_pool, from_pool, PlanLays, PlanShows}
use Rattle.lt_forest.proofs.SameRows.{times-++, AgreeOn, on_left, on_right, on_here, on_pairs}
use Rattle.lt_forest.proofs.EndLaws.{on_ends}
use Rattle.lt_forest.proofs.RowsAndHangs.{looser_same}
use Rattle.lt_forest.proofs.Chains.{on_run}
use Rattle.lt_forest.proofs.GapLaws.{placed_tree}
use Rattle.lt_forest.proofs.FurtherRows.{part_further, taken_further, none_of, other_one}
use Rattle.lt_forest.proofs.PlanLaws.{replaced}
use Rattle.lt_forest.proofs.EventLaws.{score_of, deed_replies, event_relaid, layout_relaid}

pub on_cut : (v c : Nodes) (link : ℕ) (cut : Cut) → AgreeOn v c (in_order (bare cut)) → Shows v link cut → Shows c link cut
on_cut v c link (end l) same shows = shows
on_cut v c link (held a r b) same shows =
    let low = on_left v c (in_order (bare a)) (r ∷ in_order (bare b)) same in
    let rest = on_right v c (in_order (bare a)) (r ∷ in_order (bare b)) same in
    subst (λ (n : Node). (link ≡ r + 1) × Shows c n.left a × Shows c n.right b) (on_here v c r (in_order (bare b)) rest)
    (shows.0, on_cut v c (v r).left a low shows.1, on_cut v c (v r).right b (on_right v c (r ∷ []) (in_order (bare b)) rest) shows.2)

-- rows that are held hold what the view shows
pub held_same : (has : ℕ → Type 0) (v c : Nodes) (rows : List ℕ) → Agrees has v c → AllHeld has rows → AgreeOn v c rows
held_same has v c rows agrees all q some = agrees q (all q some)

-- only rows of the plan change
pub planned_only : (rows planned : List ℕ) (c d : Nodes) → ChangesOnly planned c d → PlansOnly rows planned → ChangesOnly rows c d
planned_only rows planned c d stays plans r none = stays r (plans r none)

pub top_same : (has : ℕ → Type 0) (v c : Nodes) (t : ℕ) (top : Top) → Agrees has v c → TopHeld has t top
    → top_link top (v t) ≡ top_link top (c t)
top_same has v c t from_anchor agrees h = ap (λ (n : Node). n.left) (agrees t h)
top_same has v c t (from_row h g) agrees k = refl

-- parts

module _ {has : ℕ → Type 0} {t : ℕ} {top : Top} {v c : Nodes} {cut : Cut} (agrees : Agrees has v c)
    (part : HoldsPart has t top v cut) where
  cut_same : AgreeOn v c (in_order (bare cut))
  cut_same = held_same has v c (in_order (bare cut)) agrees part.rows

  pub true_shows : Shows c (top_link top (c t)) cut
  true_shows = on_cut v c (top_link top (c t)) cut cut_same
      (subst (λ (l : ℕ). Shows v l cut) (top_same has v c t top agrees part.top_held) part.shows)

  pub true_pairs : pairs_in v (bare cut) ≡ pairs_in c (bare cut)
  true_pairs = on_pairs v c (in_order (bare cut)) cut_same

  pub true_ends : ends v cut None None ≡ ends c cut None None
  true_ends = on_ends v c cut None None cut_same

  pub true_closed : {range : Interval} → IsClosedFor range top v cut → IsClosedFor range top c cut
  true_closed {range} closed = record { in_gap = closed.in_gap; aside = subst (AllAside range) true_ends closed.aside }

  pub true_part : {trees rows : ℕ} {mode : ℕ → Mode} {state : List TreeState} {f : Forest} → IsForest trees rows c mode state f
      → AllSound state → t < trees → IsTree (mode t) → IsSeen c (f.tree t) top → IsPart trees rows c mode state f t top cut
  true_part forest sound tree tree_mode seen = record {
    forest = forest;
    sound = sound;
    tree = tree;
    tree_mode = tree_mode;
    seen = seen;
    shows = true_shows;
  }

-- plans

top_stays : (has : ℕ → Type 0) (planned : List ℕ) (v v' c d : Nodes) (t : ℕ) (top : Top) → IsView has planned v v' c d
    → TopStays has planned t top v v' → KeepsLink top (c t) (d t)
top_stays has planned v v' c d t from_anchor view h = tt
top_stays has planned v v' c d t (from_row h g) view k =
    let left : Node → ℕ = λ n. n.left in
    elim k [
      | inl unplanned ↦ ap left (view.stays t unplanned)
      | inr m ↦ ap left (sym (view.before t m.0)) ∙ (m.1 ∙ ap left (view.after t m.0))
    ]

module _ {has : ℕ → Type 0} {planned : List ℕ} {trees : ℕ} {v v' c d : Nodes} {taken given : List ℕ}
    (view : IsView has planned v v' c d) where
  pub true_pool : PoolPlan has planned trees v v' taken given → MovesPool trees c d taken given
  true_pool (no_pool none_taken none_given unplanned) = record {
    rest = (c trees).left;
    takes = subst (λ (rows : List ℕ). IsRun c (c trees).left rows (c trees).left) (sym none_taken) refl;
    gives = subst (λ (rows : List ℕ). IsRun d (d trees).left rows (c trees).left) (sym none_given)
        (ap (λ (n : Node). n.left) (sym (view.stays trees unplanned)));
  }
  true_pool (from_pool pool_held taken_held given_held moves) = record {
    rest = moves.rest;
    takes = subst (λ (n : Node). IsRun c n.left taken moves.rest) (view.before trees pool_held)
        (on_run v c (v trees).left taken moves.rest (held_same has v c taken view.before taken_held) moves.takes);
    gives = subst (λ (n : Node). IsRun d n.left given moves.rest) (view.after trees pool_held)
        (on_run v' d (v' trees).left given moves.rest (held_same has v' d given view.after given_held) moves.gives);
  }

module _ {has : ℕ → Type 0} {planned : List ℕ} {trees t : ℕ} {top : Top} {v v' c d : Nodes} {cut new : Cut} {taken given : List ℕ}
    (view : IsView has planned v v' c d) (plan : PlanLays has planned trees t top v v' cut new taken given) where
  new_same : AgreeOn v' d (in_order (bare new))
  new_same = held_same has v' d (in_order (bare new)) view.after plan.new_held

  pub true_lays : Lays trees t top c d cut new taken given
  true_lays = record {
    shows = on_cut v' d (top_link top (d t)) new new_same
        (subst (λ (l : ℕ). Shows v' l new) (top_same has v' d t top view.after plan.part.top_held) plan.shows);
    loose = subst (λ (es : List End). Looser es (ends d new None None)) (true_ends view.before plan.part)
        (subst (Looser (ends v cut None None)) (on_ends v' d new None None new_same) plan.loose);
    pool = true_pool view plan.pool;
    rows = plan.rows;
    link = top_stays has planned v v' c d t top view plan.link;
    others = planned_only (t ∷ trees ∷ in_order (bare cut) ++ taken) planned c d view.stays plan.others;
  }

  pub new_pairs : pairs_in v' (bare new) ≡ pairs_in d (bare new)
  new_pairs = on_pairs v' d (in_order (bare new)) new_same

  pub true_deed : {setting : Setting} {txn : ℕ} {deed : Deed} {before after : Mode}
      → ShowsDeed setting txn deed v v' cut new before after
      → ShowsDeed setting txn deed c d cut new before after
  true_deed {setting} {txn} {deed} {before} {after} shows =
      let old = true_pairs view.before plan.part in
      let at : List Pair → TreeState = λ l. record { pairs = l; mode = before } in
      record {
        was_tree = shows.was_tree;
        is_tree = shows.is_tree;
        pairs = sym new_pairs ∙ (shows.pairs ∙ ap (λ (l : List Pair). (tree_after setting txn deed (at l)).pairs) old);
        mode = shows.mode ∙ ap (λ (l : List Pair). (tree_after setting txn deed (at l)).mode) old;
        replies = ap (λ (l : List Pair). replied setting txn deed (at l)) (sym old) ∙ shows.replies;
        question = shows.question;
      }

-- no other tree's anchor is in the plan
pub anchors_apart : {has : ℕ → Type 0} {planned : List ℕ} {trees rows t : ℕ} {top : Top} {v v' c d : Nodes} {mode : ℕ → Mode}
    {state : List TreeState} {f : Forest} {cut new : Cut} {taken given : List ℕ} → IsPart trees rows c mode state f t top cut
    → IsView has planned v v' c d → PlanLays has planned trees t top v v' cut new taken given
    → (s : ℕ) → s < trees → s ≢ t → times s planned ≡ 0
anchors_apart {trees = trees} {t = t} {cut = cut} {taken = taken} part view plan s lt ne =
    let pool = true_pool view plan.pool in
    let a : times s (t ∷ []) ≡ 0 = other_one t s ne in
    let b : times s (trees ∷ []) ≡ 0 = other_one trees s (λ e. omega arith) in
    let m : times s (in_order (bare cut)) ≡ 0 = none_of (in_order (bare cut)) s trees (omega arith) (λ r some. (part_further part r some).0) in
    let n : times s taken ≡ 0 =
    none_of taken s trees (omega arith) (λ r some. (taken_further part.forest pool.rest r taken pool.takes some).0) in
    let sum = times-++ s (in_order (bare cut)) taken in
    plan.others s (omega arith)

-- a plan that changes nothing
pub unchanged : {has : ℕ → Type 0} {t : ℕ} {top : Top} {v : Nodes} {cut : Cut} (trees : ℕ) → HoldsPart has t top v cut
    → PlanLays has [] trees t top v v cut cut [] []
unchanged {has = has} {t = t} {top = top} {v = v} {cut = cut} trees part = record {
  part = part;
  shows = part.shows;
  new_held = part.rows;
  loose = looser_same (ends v cut None None);
  pool = no_pool refl refl refl;
  rows = record { each = λ q. refl; all = refl };
  link = none_planned top;
  others = λ r none. refl;
}
  where
    none_planned : (at : Top) → TopStays has [] t at v v
    none_planned from_anchor = tt
    none_planned (from_row h g) = inl refl

-- a plan for an event

abbrev score_in : Mode → ℕ
score_in (TreeMode s) = s
score_in (Buffer txn count) = 0

module _ {has : ℕ → Type 0} {planned : List ℕ} {trees rows : ℕ} {top : Top} {v v' c d : Nodes} {mode mode' : ℕ → Mode}
    {state : List TreeState}
    {f : Forest} {cut new : Cut} {taken given : List ℕ} (setting : Setting) (txn score : ℕ) (deed : Deed)
    (forest : IsForest trees rows c mode state f) (sound : AllSound state) (tree : tree_of deed < trees)
    (seen : IsSeen c (f.tree (tree_of deed)) top) (full : score ≡ 100 → mode (tree_of deed) ≡ TreeMode 100)
    (view : IsView has planned v v' c d) (plan : PlanLays has planned trees (tree_of deed) top v v' cut new taken given)
    (closed : IsClosedFor (range_of deed) top v cut)
    (shows : PlanShows planned setting txn deed top score v v' cut new (mode (tree_of deed)) (mode' (tree_of deed)))
    (modes : PlansModes trees planned mode mode') where
  abbrev t : ℕ
  t = tree_of deed

  known_deed : (at : Top) → IsSeen c (f.tree (tree_of deed)) at
      → PlanShows planned setting txn deed at score v v' cut new (mode (tree_of deed)) (mode' (tree_of deed))
      → ShowsDeed setting txn deed v v' cut new (mode (tree_of deed)) (mode' (tree_of deed))
  known_deed from_anchor seen shows = shows
  known_deed (from_row h g) seen shows = elim shows [
    | inl known ↦ known
    | inr any ↦
        let m = score_of (mode t) (placed_tree forest t h g tree seen) in
        subst (λ (n : Mode). ShowsDeed setting txn deed v v' cut new (mode t) n) (modes t tree any.0)
        (subst (λ (n : Mode). ShowsDeed setting txn deed v v' cut new n n) (sym m.1)
        (any.1 m.0 (λ e. ap score_in (sym m.1 ∙ full e))))
  ]

  view_deed : ShowsDeed setting txn deed v v' cut new (mode (tree_of deed)) (mode' (tree_of deed))
  view_deed = known_deed top seen shows

  view_part : IsPart trees rows c mode state f (tree_of deed) top cut
  view_part = true_part view.before plan.part forest sound tree view_deed.was_tree seen

  other_modes : KeepsModes trees (tree_of deed) mode mode'
  other_modes s lt ne = modes s lt (anchors_apart view_part view plan s lt ne)

  pub view_relaid : Relaid trees rows c d mode mode' state (after_deed setting txn deed state)
      f (tree_of deed) top cut new
  view_relaid =
      event_relaid view_part (true_lays view plan) (true_closed view.before plan.part closed) (true_deed view plan view_deed) other_modes

  pub view_replies : IsReplied setting txn deed state
  view_replies =
      deed_replies view_part (true_lays view plan) (true_closed view.before plan.part closed) (true_deed view plan view_deed) other_modes

-- a change of layout alone

module _ {has : ℕ → Type 0} {planned : List ℕ} {trees rows t : ℕ} {top : Top} {v v' c d : Nodes} {mode mode' : ℕ → Mode}
    {state : List TreeState}
    {f : Forest} {cut new : Cut} (forest : IsForest trees rows c mode state f) (sound : AllSound state) (tree : t < trees)
    (tree_mode : IsTree (mode t)) (seen : IsSeen c (f.tree t) top) (view : IsView has planned v v' c d)
    (plan : PlanLays has planned trees t top v v' cut new [] []) (same : pairs_in v' (bare new) ≡ pairs_in v (bare cut))
    (modes : PlansModes trees planned mode mode') (own : SameMode planned t top (mode t) (mode' t)) where
  layout_part : IsPart trees rows c mode state f t top cut
  layout_part = true_part view.before plan.part forest sound tree tree_mode seen

  own_mode : (at : Top) → SameMode planned t at (mode t) (mode' t) → mode t ≡ mode' t
  own_mode from_anchor is = is
  own_mode (from_row h g) is = elim is [ inl e ↦ e | inr unplanned ↦ modes t tree unplanned ]

  all_modes : (s : ℕ) → s < trees → mode s ≡ mode' s
  all_modes s lt = dite (ℕ_discrete s t)
      (λ e. subst (λ (n : ℕ). mode n ≡ mode' n) (sym e) (own_mode top own))
      (λ ne. modes s lt (anchors_apart layout_part view plan s lt ne))

  pub view_settled : Relaid trees rows c d mode mode' state state f t top cut new
  view_settled = layout_relaid layout_part (true_lays view plan)
      (sym (new_pairs view plan) ∙ (same ∙ true_pairs view.before plan.part)) all_modes

-- any ranges that fit

module _ {has : ℕ → Type 0} {planned : List ℕ} {trees rows t : ℕ} {top : Top} {v v' c d : Nodes} {mode : ℕ → Mode}
    {state : List TreeState}
    {f : Forest} {cut new : Cut} {taken given : List ℕ} (forest : IsForest trees rows c mode state f) (sound : AllSound state)
    (tree : t < trees) (tree_mode : IsTree (mode t)) (seen : IsSeen c (f.tree t) top) (view : IsView has planned v v' c d)
    (plan : PlanLays has planned trees t top v v' cut new taken given) (lawful : IsLawful (pairs_in v' (bare new)))
    (inside : (p : Pair) → Has p (pairs_in v' (bare new)) → IsInGap top p.range) where
  pub view_replaced : ReplacedPart trees rows c d mode state f t top cut new
  view_replaced = replaced (true_part view.before plan.part forest sound tree tree_mode seen) (true_lays view plan)
      (subst IsLawful (new_pairs view plan) lawful) (λ p h. inside p (subst (Has p) (sym (new_pairs view plan)) h))
