-- A part laid anew keeps the forest, with its state changed as the part's pairs are.
use Rattle.std.proofs.Common.{◌≡◌, ◌⊎◌, inl, inr, ℕ, zero, suc, ◌+◌, ◌<◌, List, [], ◌∷◌, ◌++◌, length, length-append, Bool, false, set, refl, sym, ap, ◌∙◌, subst, arith}
use Rattle.std.specs.Prelude.{None}
use Rattle.lt_ranges.specs.Interval.{Interval, overlap}
use Rattle.lt_seq.specs.declared.event.Pair.{Pair}
use Rattle.lt_seq.specs.declared.event.Mode.{Mode}
use Rattle.lt_seq.specs.declared.event.Mode.TheVariants.{Tree as TreeMode}
use Rattle.lt_seq.specs.Pairs.{IsLawful}
use Rattle.lt_seq.specs.Table.{TreeState, tree_at}
use Rattle.lt_forest.specs.Counts.{times}
use Rattle.lt_forest.specs.Bounds.{Gap, IsInside}
use Rattle.lt_forest.specs.Pairs.{Has}
use Rattle.lt_forest.specs.Trees.{Tree, leaf, node, Nodes, LeadsTo, in_order, pairs_in, IsOrdered, HasGap}
use Rattle.lt_forest.specs.Paths.{plug, front, back, lower, upper}
use Rattle.lt_forest.specs.Cuts.{Cut, end, held, Shows, fill, bare, links}
use Rattle.lt_forest.specs.Forest.{Forest, Growth, search_tree, rows_at, IsTree, IsChain, GapIn, KeepsModes}
use Rattle.lt_forest.specs.Plans.{Top, from_row, top_link, IsInGap, IsPart, IsClosedFor, Lays, ReplacedPart, Relaid}
use Rattle.lt_forest.proofs.TreeLaws.{last_link}
use Rattle.lt_forest.proofs.Changes.{Change, IsLocal}
use Rattle.lt_forest.proofs.PairLists.{not_over}
use Rattle.lt_forest.proofs.SameRows.{times-++, one_here, one_equal, AgreeOn, on_path}
use Rattle.lt_forest.proofs.LawfulTrees.{lawful_ordered}
use Rattle.lt_forest.proofs.EndLaws.{same_links}
use Rattle.lt_forest.proofs.HangLaws.{hung, hung_pairs, cut_gap}
use Rattle.lt_forest.proofs.Growing.{grow, height, AllGrow, links_grow, all_grow, fill_leads}
use Rattle.lt_forest.proofs.TreeParts.{beside, beside_pairs, shown_inside, shown_apart, hung_apart, beside_apart, old_has, has_old, PartLaid, new_lawful, gaps_stay, place_gap, new_has, has_new, new_times, new_length, PartChange, new_pairs}
use Rattle.lt_forest.proofs.Chains.{BeginsWith, cut_chain, join_chain, on_chain}
use Rattle.lt_forest.proofs.ForestLaws.{tree_represents, one_place, Moves, off, put_here, Regrows, regrown, regrown_forest, others_placed}
use Rattle.lt_forest.proofs.StateLaws.{used_moves}
use Rattle.lt_forest.proofs.GapLaws.{gap_in_stands}
use Rattle.lt_forest.proofs.PartLaws.{known, at, hanging, filled, whole_is, placed, closed_at, rows_are, whole_pairs}

module _ {trees rows t : ℕ} {c d : Nodes} {mode : ℕ → Mode} {state : List TreeState} {f : Forest} {top : Top} {cut new : Cut}
    {taken given : List ℕ} (part : IsPart trees rows c mode state f t top cut) (lays : Lays trees t top c d cut new taken given) where
  -- the pool's rows that are not taken
  rest : BeginsWith c f.pool taken lays.pool.rest
  rest = cut_chain c (c trees).left taken f.pool lays.pool.rest part.forest.vacant lays.pool.takes

  in_pool : (q : ℕ) → times q f.pool ≡ times q taken + times q rest.rest
  in_pool q = ap (times q) rest.is ∙ times-++ q taken rest.rest

  abbrev moved : List ℕ
  moved = in_order (bare cut) ++ taken

  pub moves : Moves trees t c d f (in_order (bare cut) ++ taken)
  moves = record {
    tree = part.tree;
    only = lays.others;
    stand = λ q. let a = times-++ q (in_order (bare cut)) taken in let b = rows_are part q in let k = in_pool q in omega arith;
  }

  -- what stands beside the part, hangs below it or stays in the pool holds what it held

  beside_same : AgreeOn c d (beside (at part).path)
  beside_same q some =
      let a = times-++ q (front (at part).path) (back (at part).path) in
      let b = rows_are part q in
      let k = in_pool q in
      let m = one_place part.forest t part.tree q in
      let z = times-++ q (in_order (bare cut)) taken in
      off part.forest moves q (omega arith) (omega arith)

  hung_same : AgreeOn c d (hung (hanging part) (links cut))
  hung_same q some =
      let b = rows_are part q in
      let k = in_pool q in
      let m = one_place part.forest t part.tree q in
      let z = times-++ q (in_order (bare cut)) taken in
      off part.forest moves q (omega arith) (omega arith)

  rest_same : AgreeOn c d rest.rest
  rest_same q some =
      let b = rows_are part q in
      let k = in_pool q in
      let m = one_place part.forest t part.tree q in
      let z = times-++ q (in_order (bare cut)) taken in
      off part.forest moves q (omega arith) (omega arith)

  laid_part : IsOrdered d (bare new) (lower c (at part).path None) (upper c (at part).path None)
      → PartLaid c d (hanging part) (at part).path cut new
  laid_part shown = record { loose = lays.loose; beside_same = beside_same; hung_same = hung_same; new_shown = shown }

-- the row from which a part hangs isn't given to the pool

grown_stands : (c : Nodes) (n h : ℕ) → 0 < n → 0 < times h (in_order (grow c n (h + 1)))
grown_stands c zero h lt = absurd (omega (arith, lt))
grown_stands c (suc n) h lt =
    let one : suc h ≡ h + 1 = omega arith in
    subst (λ (l : ℕ). 0 < times h (in_order (grow c (suc n) l))) one
    (let o = one_here h in
    let s = times-++ h (in_order (grow c n (c h).left)) (h ∷ in_order (grow c n (c h).right)) in
    omega arith)

is_high : (c : Nodes) (link h : ℕ) (t : Tree) → LeadsTo c link t → link ≡ h + 1 → 0 < height t
is_high c link h leaf leads is = absurd (let z : link ≡ 0 = leads in omega arith)
is_high c link h (node a r b) leads is = omega arith

one_top : (c : Nodes) (l m : ℕ) (cut : Cut) → Shows c l cut → Shows c m cut → l ≡ m
one_top c l m (end k) x y = x ∙ sym y
one_top c l m (held a r b) x y = x.0 ∙ sym y.0

top_kept : (d : Nodes) (h : ℕ) (new : Cut) → Shows d (h + 1) new → (0 < times h (in_order (bare new))) ⊎ (links new ≡ (h + 1) ∷ [])
top_kept d h (end zero) shows = absurd (let e : h + 1 ≡ 0 = shows in omega arith)
top_kept d h (end (suc l)) shows = inr (ap (λ (n : ℕ). n ∷ []) (sym shows))
top_kept d h (held a r b) shows =
    let o = one_equal h r (let e = shows.0 in omega arith) in
    let s = times-++ h (in_order (bare a)) (r ∷ in_order (bare b)) in
    inl (omega arith)

module _ {trees rows t h : ℕ} {g : Gap} {c d : Nodes} {mode : ℕ → Mode} {state : List TreeState} {f : Forest} {cut new : Cut}
    {taken given : List ℕ} (part : IsPart trees rows c mode state f t (from_row h g) cut)
    (lays : Lays trees t (from_row h g) c d cut new taken given) where
  top_hangs : 0 < times h (in_order (hanging part (h + 1)))
  top_hangs =
      let link : ℕ = last_link c (at part).path (c t).left in
      let same : link ≡ h + 1 = one_top c link (h + 1) cut (at part).shows part.shows in
      grown_stands c (height (at part).inner) h (is_high c link h (at part).inner (at part).leads same)

  pub top_not_given : times h given ≡ 0
  top_not_given =
      let s = gap_in_stands c (f.tree t) h g part.seen in
      let r = rows_are part h in
      let m = one_place part.forest t part.tree h in
      let k = in_pool part lays h in
      let e = lays.rows.each h in
      elim (top_kept d h new lays.shows) [
        | inl there ↦ omega arith
        | inr hangs ↦
            let same : links cut ≡ (h + 1) ∷ [] = same_links c d cut new None None lays.loose ∙ hangs in
            let below = ap (λ (ls : List ℕ). times h (hung (hanging part) ls)) same in
            let u = times-++ h (in_order (hanging part (h + 1))) [] in
            let v = top_hangs in
            omega arith
      ]

-- the mode that the plan makes of the tree, where the tree after it is this
pub record Remode (trees : ℕ) (mode mode' : ℕ → Mode) (t : ℕ) (after : TreeState) : Type 0 where
  pub is_tree : IsTree (mode' t)
  pub mode_is : mode' t ≡ after.mode
  pub full : mode t ≡ TreeMode 100 → mode' t ≡ TreeMode 100
  pub others : KeepsModes trees t mode mode'

module _ {trees rows t : ℕ} {c d : Nodes} {mode mode' : ℕ → Mode} {state : List TreeState} {f : Forest} {top : Top}
    {cut new : Cut}
    {taken given : List ℕ} {after : TreeState} (part : IsPart trees rows c mode state f t top cut)
    (lays : Lays trees t top c d cut new taken given) (modes : Remode trees mode mode' t after)
    (new_shown : IsOrdered d (bare new) (lower c (at part).path None) (upper c (at part).path None))
    (new_pairs : pairs_in d (plug (at part).path (fill (hanging part) new)) ≡ after.pairs) where
  laid : PartLaid c d (hanging part) (at part).path cut new
  laid = laid_part part lays new_shown

  abbrev tree' : Tree
  tree' = plug (at part).path (fill (hanging part) new)

  abbrev pool' : List ℕ
  pool' = given ++ (rest part lays).rest

  vacant' : IsChain d (d trees).left (given ++ (rest part lays).rest)
  vacant' = join_chain d (d trees).left given (rest part lays).rest lays.pool.rest lays.pool.gives
      (on_chain c d lays.pool.rest (rest part lays).rest (rest_same part lays) (rest part lays).on)

  leads' : LeadsTo d (d t).left (plug (at part).path (fill (hanging part) new))
  leads' =
      let H = hanging part in
      let link = last_link c (at part).path (c t).left in
      let old : AllGrow c H (links cut) =
      links_grow c H link cut (at part).shows (subst (LeadsTo c link) (sym (filled part)) (at part).leads) in
      let hangs : AllGrow d H (links new) = subst (λ (ls : List ℕ). AllGrow d H ls) (same_links c d cut new None None lays.loose)
      (all_grow c d H (links cut) (hung_same part lays) old) in
      (at part).back d (fill H new) lays.link (on_path c d (at part).path (beside_same part lays))
      (fill_leads d H (top_link top (d t)) new (placed part).empty lays.shows hangs)

  old_rows : rows_at (f.tree t) ≡ in_order (plug (at part).path (fill (hanging part) cut))
  old_rows = ap rows_at (known part).is ∙ ap in_order (whole_is part)

  grows : Regrows trees t c d mode mode' f after (in_order (bare cut) ++ taken)
      (search_tree (plug (at part).path (fill (hanging part) new))) (given ++ (rest part lays).rest)
  grows = record {
    moves = moves part lays;
    other_modes = modes.others;
    mode_is = modes.mode_is;
    grown = tree_represents d (d t).left (plug (at part).path (fill (hanging part) new)) after.pairs (mode' t) modes.is_tree leads' new_pairs;
    vacant = vacant';
    same = λ q.
        let a = new_times (placed part) laid q in
        let e = ap (times q) old_rows in
        let k = in_pool part lays q in
        let l = times-++ q given (rest part lays).rest in
        let m = lays.rows.each q in
        omega arith;
    long =
        let a = new_length (placed part) laid in
        let e = ap (λ (l : List ℕ). length l) old_rows in
        let k = ap (λ (l : List ℕ). length l) (rest part lays).is in
        let m = lays.rows.all in
        omega (arith, length-append given (rest part lays).rest, length-append taken (rest part lays).rest);
  }

  pub laid_anew : Relaid trees rows c d mode mode' state (set state t after) f t top cut new
  laid_anew = record {
    becomes = record {
      next = regrown f t (search_tree tree') pool';
      forest = regrown_forest part.forest grows;
      others = λ s q g score out seen. others_placed part.forest grows s q g score
          (λ e has. (
            gaps_stay (placed part) laid q g out
                (subst (λ (x : Tree). HasGap c x None None q g) (whole_is part) (subst (λ (x : Growth). GapIn c x q g) (known part).is has)),
            modes.full,
          )) seen;
      used_rows = used_moves (length (in_order (bare cut))) (length (in_order (bare new))) part.forest (regrown_forest part.forest grows)
          (let k = ap (λ (l : List ℕ). length l) (rest part lays).is in
          let m = lays.rows.all in
          omega (arith, length-append given (rest part lays).rest, length-append taken (rest part lays).rest));
    };
    gaps = λ q g b. subst (λ (x : Growth). GapIn d x q g) (sym (put_here f.tree t (search_tree tree')))
        (place_gap (placed part) laid q g
        (cut_gap (hanging part) (placed part).empty d new (lower c (at part).path None) (upper c (at part).path None) q g
        ((at part).bounds d new q g b)));
  }

-- A change of the pairs: either none is added or dropped, or those that are belong to a range for which the part is closed.
pub data IsCovered (top : Top) (c : Nodes) (cut : Cut) (added : Pair → Type 0) (dropped : Pair → Bool) : Type 0 where
  same_pairs : ((p : Pair) → added p → ⊥) → ((p : Pair) → dropped p ≡ false) → IsCovered top c cut added dropped
  in_range : (range : Interval) → IsClosedFor range top c cut → IsLocal range added dropped (pairs_in c (bare cut))
      → IsCovered top c cut added dropped

-- the pairs and the mode that the plan makes of the tree, and how it changes the pairs
pub record Remakes (trees : ℕ) (c d : Nodes) (mode mode' : ℕ → Mode) (t : ℕ) (old : List Pair) (after : TreeState) (top : Top) (cut new : Cut)
    (added : Pair → Type 0) (dropped : Pair → Bool) : Type 0 where
  pub modes : Remode trees mode mode' t after
  pub covered : IsCovered top c cut added dropped
  pub shown : Change added dropped (pairs_in c (bare cut)) (pairs_in d (bare new))
  pub whole : Change added dropped old after.pairs

module _ {trees rows t : ℕ} {c d : Nodes} {mode mode' : ℕ → Mode} {state : List TreeState} {f : Forest} {top : Top}
    {cut new : Cut}
    {taken given : List ℕ} {after : TreeState} {added : Pair → Type 0} {dropped : Pair → Bool}
    (part : IsPart trees rows c mode state f t top cut) (lays : Lays trees t top c d cut new taken given)
    (remakes : Remakes trees c d mode mode' t (tree_at state t).pairs after top cut new added dropped) where
  fits : IsCovered top c cut added dropped → (p : Pair) → added p
      → IsInside (lower c (at part).path None) (upper c (at part).path None) p.range
  fits (same_pairs none_added none_dropped) p k = absurd (none_added p k)
  fits (in_range range closed local) p k =
      local.within p k (lower c (at part).path None) (upper c (at part).path None)
      ((at part).inside range closed.in_gap) (shown_inside (placed part))

  hung_kept : IsCovered top c cut added dropped → (p : Pair) → Has p (hung_pairs c (hanging part) (links cut)) → dropped p ≡ false
  hung_kept (same_pairs none_added none_dropped) p h = none_dropped p
  hung_kept (in_range range closed local) p h =
      not_over (dropped p) (overlap p.range range) (local.over p) (hung_apart (placed part) range (closed_at part closed) p h)

  beside_kept : IsCovered top c cut added dropped → (p : Pair) → Has p (beside_pairs c (at part).path) → dropped p ≡ false
  beside_kept (same_pairs none_added none_dropped) p h = none_dropped p
  beside_kept (in_range range closed local) p h =
      not_over (dropped p) (overlap p.range range) (local.over p) (beside_apart (placed part) range (closed_at part closed) p h)

  shown' : IsOrdered d (bare new) (lower c (at part).path None) (upper c (at part).path None)
  shown' = lawful_ordered d (bare new) (lower c (at part).path None) (upper c (at part).path None) remakes.shown.lawful
      (λ p h. elim (remakes.shown.has p h) [ inl k ↦ fits remakes.covered p k | inr k ↦ shown_inside (placed part) p k.0 ])

  changes : PartChange c d (hanging part) (at part).path cut new added dropped
  changes = record {
    laid = laid_part part lays shown';
    hung_kept = hung_kept remakes.covered;
    beside_kept = beside_kept remakes.covered;
    change = remakes.shown;
  }

  pairs' : pairs_in d (plug (at part).path (fill (hanging part) new)) ≡ after.pairs
  pairs' = new_pairs (placed part) changes after.pairs
      (subst (λ (l : List Pair). Change added dropped l after.pairs) (sym (whole_pairs part)) remakes.whole)

  pub relaid : Relaid trees rows c d mode mode' state (set state t after) f t top cut new
  relaid = laid_anew part lays remakes.modes shown' pairs'

-- any lawful pairs in the place of the part's

module _ {trees rows t : ℕ} {c d : Nodes} {mode : ℕ → Mode} {state : List TreeState} {f : Forest} {top : Top} {cut new : Cut}
    {taken given : List ℕ} (part : IsPart trees rows c mode state f t top cut) (lays : Lays trees t top c d cut new taken given)
    (lawful : IsLawful (pairs_in d (bare new)))
    (inside : (p : Pair) → Has p (pairs_in d (bare new)) → IsInGap top p.range) where
  fits_in : IsOrdered d (bare new) (lower c (at part).path None) (upper c (at part).path None)
  fits_in = lawful_ordered d (bare new) (lower c (at part).path None) (upper c (at part).path None) lawful
      (λ p h. (at part).inside p.range (inside p h))

  pub replaced : ReplacedPart trees rows c d mode state f t top cut new
  replaced =
      let whole = plug (at part).path (fill (hanging part) new) in
      let anew = laid_part part lays fits_in in
      record {
        pairs = pairs_in d whole;
        lawful = new_lawful (placed part) anew;
        has = λ p h. elim (new_has (placed part) anew p h) [
          | inl k ↦ inl k
          | inr k ↦ inr (
            subst (Has p) (whole_pairs part) (has_old (placed part) p (inr k)),
            λ shown. shown_apart (placed part) p shown k,
          )
        ];
        shows = λ p h. has_new (placed part) anew p (inl h);
        keeps = λ p h. elim (old_has (placed part) p (subst (Has p) (sym (whole_pairs part)) h)) [
          | inl k ↦ inl k
          | inr k ↦ inr (has_new (placed part) anew p (inr k))
        ];
        relaid = laid_anew part lays (record {
          is_tree = part.tree_mode;
          mode_is = refl;
          full = λ e. e;
          others = λ s lt ne. refl;
        }) fits_in refl;
      }
