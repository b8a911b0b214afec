-- Plans for a tree's only row, which is held without its anchor, meet the conditions of a commit and of a settle.
use Rattle.std.proofs.Common.{◌≡◌, ◌≢◌, inl, inr, ℕ, ◌+◌, ◌<◌, Bool, true, false, cond, List, [], ◌∷◌, map, fold, get_or, refl, sym, ap, ◌∙◌, subst, arith, eq-eqb, ne_eqb, get_or-set_other, zero, suc, ◌≤◌, set, take, drop}
use Rattle.std.specs.Prelude.{Option, Some, None, pos, slice_index, slice_index_or, nat_eq, nat_lt, ◌==◌, ◌&&◌, not, if◌then◌else◌}
use mathlib.Core.Logic.{dite}
use native.Mathlib.Decide.{ℕ_discrete}
use Rattle.lt_ranges.specs.declared.key.Key.{Key}
use Rattle.lt_ranges.specs.declared.key.Key.TheVariants.{Below, Bytes, After, Above}
use Rattle.lt_ranges.specs.Key.{key_le, key_min, key_max}
use Rattle.lt_ranges.specs.Numbers.{ascending}
use Rattle.lt_ranges.specs.Interval.{Interval, whole, overlap, hull}
use Rattle.lt_rows.specs.declared.row_plan.RowPlan.{RowPlan}
use Rattle.lt_seq.specs.declared.event.Event.{Event}
use Rattle.lt_seq.specs.declared.event.Pair.{Pair}
use Rattle.lt_seq.specs.declared.event.Mode.TheVariants.{Tree as TreeMode}
use Rattle.lt_seq.specs.declared.event.Deed.{Deed}
use Rattle.lt_seq.specs.declared.event.Deed.TheVariants.{Ask}
use Rattle.lt_seq.specs.declared.event.Reply.TheVariants.{Buffered}
use Rattle.lt_seq.specs.Pairs.{granted, others, is_own, span}
use Rattle.lt_seq.specs.Table.{TreeState, is_buffered, buffered_mode, ended, pairs_by, reply_by, tree_after, tree_of, replied}
use Rattle.lt_rows.specs.Plan.{setting_of}
use Rattle.lt_forest.specs.Counts.{one_if, times}
use Rattle.lt_forest.specs.Trees.{Node, pair_of}
use Rattle.lt_forest.specs.Cuts.{Cut, end, held}
use Rattle.lt_forest.specs.Plans.{Top, from_row, ShowsDeed}
use Rattle.lt_forest.specs.Views.{IsIn, PlanLays, no_pool}
use Rattle.lt_forest.proofs.MiddleSteps.{granted-own}
use Rattle.lt_rows.specs.declared.view.View.{View}
use Rattle.lt_rows.specs.declared.view.Row.{Row}
use Rattle.lt_rows.specs.declared.take.Take.TheVariants.{Taken}
use Rattle.lt_rows.specs.declared.image.RowImage.{RowImage}
use Rattle.lt_rows.specs.Nodes.{key_of, upwards, node_of, mode_of}
use Rattle.lt_rows.specs.Views.{Holds, row_at, words_of, has, images, image_of, with_row, planned_rows, planned_contents, committed, settled}
use Rattle.lt_rows.specs.Gaps.{gap_for, new_gaps}
use Rattle.lt_rows.specs.Handles.{Tries}
use Rattle.lt_rows.specs.Teaching.{Teaches}
use Rattle.lt_rows.specs.Lawful.{shown, shown_after, KnowsTop, InTree, in_tree, IsCommit, IsSettle}
use Rattle.lt_rows.specs.Worked.{ask_whole, whole_node, HoldsImage}
use Rattle.lt_rows.specs.WorkedRow.{HasOnly}
use Rattle.lt_rows.proofs.Frames.{changed_at}
use Rattle.lt_rows.proofs.Planned.{row_held}
use Rattle.lt_rows.proofs.FirstAsk.{whole_is, mode_tree}
use Rattle.lt_rows.proofs.Gapped.{gap_at_top}
use Rattle.lt_rows.proofs.StepLaws.{taken_row_is_held, put_row_is_gone, committed_row_has_image, settled_row_has_image}
use Rattle.lt_rows.proofs.Views.{Kept, kept_words, kept_on}
use Rattle.lt_rows.proofs.Wide.{still_none}
use Rattle.lt_rows.proofs.ThreeRows.{is_left}

pub is_right : (ws : List ℕ) → (node_of ws).right ≡ slice_index ws 18
unfolding node_of
is_right ws = refl

pub is_owner : (ws : List ℕ) → (node_of ws).owner ≡ slice_index ws 0
unfolding node_of
is_owner ws = refl

-- the whole range

below_all : (x : Key) → key_le Below x ≡ true
unfolding key_le
below_all Below = refl
below_all (Bytes b) = refl
below_all (After b) = refl
below_all Above = refl

above_all : (x : Key) → key_le x Above ≡ true
unfolding key_le
above_all Below = refl
above_all (Bytes b) = refl
above_all (After b) = refl
above_all Above = refl

never_below : (x : Key) → key_max Above x ≡ Above
unfolding key_le
never_below Below = refl
never_below (Bytes b) = refl
never_below (After b) = refl
never_below Above = refl

in_whole : (r : Interval) → overlap r whole ≡ true
in_whole r = ap (λ b. b && key_le Below r.right) (above_all r.left) ∙ below_all r.right

hull_whole : (r : Interval) → hull whole r ≡ whole
hull_whole r =
    let low : key_min Below r.left ≡ Below = ap (λ b. if b then Below else r.left) (below_all r.left) in
    let high : key_max Above r.right ≡ Above = never_below r.right in
    λ j. record { left = low j; right = high j }

-- the owner of the only pair asks for the whole range

module _ (txn : ℕ) (r : Interval) where
  abbrev own : Pair
  own = record { owner = txn; range = r }

  same : nat_eq txn txn ≡ true
  same = eq-eqb txn txn refl

  pub own_is : is_own txn whole own ≡ true
  own_is = ap (λ b. b && overlap r whole) same ∙ in_whole r

  no_others : others txn whole (own ∷ []) ≡ []
  no_others = ap (λ b. ascending (map (λ p. p.owner) (cond (not b && overlap r whole) (own ∷ []) []))) same

  spans : span txn whole (own ∷ []) ≡ whole
  spans = ap (λ b. fold (λ a p. hull a p.range) whole (cond b (own ∷ []) [])) own_is ∙ hull_whole r

  grants : granted txn whole (own ∷ []) ≡ record { owner = txn; range = whole } ∷ []
  grants = granted-own txn whole (own ∷ []) (λ p h. elim h [ inl e ↦ ap (is_own txn whole) e ∙ own_is | inr z ↦ absurd z ]) ∙ ap (λ (i : Interval). record { owner = txn; range = i } ∷ []) spans

  not_buffered : (buffer score : ℕ) → is_buffered buffer txn (own ∷ []) (TreeMode score) ≡ false
  not_buffered buffer score = ap (λ b. b && nat_lt 0 buffer) (never (score == 100))
    where
      never : (b : Bool) → (b && false) ≡ false
      never true = refl
      never false = refl

  asked : (k : RowPlan) (tree score : ℕ) → tree_after (setting_of k) txn (ask_whole tree) (record { pairs = own ∷ []; mode = TreeMode score }) ≡ record { pairs = record { owner = txn; range = whole } ∷ []; mode = TreeMode score }
  asked k tree score =
      ap (λ b. if b then record { pairs = granted txn whole (own ∷ []); mode = buffered_mode txn (TreeMode score) } else record { pairs = pairs_by (others txn whole (own ∷ [])) txn whole (own ∷ []); mode = ended (TreeMode score) }) (not_buffered k.buffer score)
      ∙ (ap (λ os. record { pairs = pairs_by os txn whole (own ∷ []); mode = TreeMode score }) no_others ∙ ap (λ ps. record { pairs = ps; mode = TreeMode score }) grants)

  answered : (k : RowPlan) (tree score : ℕ) → replied (setting_of k) txn (ask_whole tree) (record { pairs = own ∷ []; mode = TreeMode score }) ≡ ask_whole tree
  answered k tree score =
      ap (λ b. Ask tree whole (if b then Buffered else reply_by (others txn whole (own ∷ [])))) (not_buffered k.buffer score) ∙ ap (λ os. Ask tree whole (reply_by os)) no_others

-- the row, and a plan for it alone

module _ (k : RowPlan) (v : View) (tree : ℕ) (image p : RowImage) (lt : tree < k.trees) (h : HasOnly k v tree image) (row_is : p.row ≡ image.row)
    (left : (node_of p.words).left ≡ 0) (right : (node_of p.words).right ≡ 0) where
  abbrev q : ℕ
  q = image.row

  abbrev plan : List RowImage
  plan = p ∷ []

  abbrev top : Top
  top = from_row image.row (None, None)

  abbrev cut : Cut
  cut = held (end 0) image.row (end 0)

  before : shown v plan q ≡ node_of image.words
  before = ap node_of (ap image_of h.held ∙ h.image_is)

  after : shown_after v plan q ≡ node_of p.words
  after = ap node_of (changed_at (images v) p.row p.words q (sym row_is))

  has_row : IsIn (has v) q
  has_row = row_held v q h.row h.held

  one_row : (r : ℕ) → 0 < times r (q ∷ []) → r ≡ q
  one_row r some = dite (ℕ_discrete r q) (λ e. e) (λ ne. let z : one_if (nat_eq q r) ≡ 0 = ap one_if (ne_eqb q r (λ e. ne (sym e))) in absurd (omega arith))

  not_planned : (r : ℕ) → r ≢ q → times r (planned_rows plan) ≡ 0
  not_planned r ne = let z : one_if (nat_eq p.row r) ≡ 0 = ap one_if (ne_eqb p.row r (λ e. ne (sym e ∙ row_is))) in omega arith

  no_anchor : times tree (planned_rows plan) ≡ 0
  no_anchor = let more = h.further in not_planned tree (λ e. omega arith)

  knows : KnowsTop v tree top h.score
  knows = (h.row, h.held, h.gap)

  lays : PlanLays (IsIn (has v)) (planned_rows plan) k.trees tree top (shown v plan) (shown_after v plan) cut cut [] []
  lays = record {
    part = record {
      top_held = tt;
      shows = (refl, ap (λ (n : Node). n.left) before ∙ (is_left image.words ∙ h.none_left), ap (λ (n : Node). n.right) before ∙ (is_right image.words ∙ h.none_right));
      rows = λ r some. subst (IsIn (has v)) (sym (one_row r some)) has_row;
    };
    shows = (refl, ap (λ (n : Node). n.left) after ∙ left, ap (λ (n : Node). n.right) after ∙ right);
    new_held = λ r some. subst (IsIn (has v)) (sym (one_row r some)) has_row;
    loose = tt;
    pool = no_pool refl refl (let more = h.further in not_planned k.trees (λ e. omega arith));
    rows = record { each = λ r. refl; all = refl };
    link = inl no_anchor;
    others = λ r none. subst (λ (n : ℕ). times r (n ∷ []) ≡ 0) (sym row_is) (omega (arith, none));
  }

  -- the owner asks again
  module _ (txn : ℕ) (owner : slice_index image.words 0 ≡ txn) (node : node_of p.words ≡ whole_node txn 0) where
    abbrev range : Interval
    range = (node_of image.words).range

    old_pair : pair_of (shown v plan) q ≡ record { owner = txn; range = range }
    old_pair = ap (λ (n : Node). record { owner = n.owner; range = n.range }) before ∙ ap (λ (o : ℕ). record { owner = o; range = range }) (is_owner image.words ∙ owner)

    shows : (s : ℕ) → ShowsDeed (setting_of k) txn (ask_whole tree) (shown v plan) (shown_after v plan) cut cut (TreeMode s) (TreeMode s)
    shows s =
        let state_is : record { pairs = pair_of (shown v plan) q ∷ []; mode = TreeMode s } ≡ record { pairs = record { owner = txn; range = range } ∷ []; mode = TreeMode s } = ap (λ (x : Pair). record { pairs = x ∷ []; mode = TreeMode s }) old_pair in
        let made = ap (tree_after (setting_of k) txn (ask_whole tree)) state_is ∙ asked txn range k tree s in
        record {
          was_tree = tt;
          is_tree = tt;
          pairs = ap (λ (n : Node). record { owner = n.owner; range = n.range } ∷ []) (after ∙ node) ∙ sym (ap (λ (t : TreeState). t.pairs) made);
          mode = sym (ap (λ (t : TreeState). t.mode) made);
          replies = ap (replied (setting_of k) txn (ask_whole tree)) state_is ∙ answered txn range k tree s;
          question = whole_is;
        }

    in_row : (pass : ℕ) → InTree k v (record { pass = pass; txn = txn; deed = ask_whole tree }) plan
    in_row pass = record {
      top = top;
      score = h.score;
      cut = cut;
      new = cut;
      taken = [];
      given = [];
      knows = knows;
      lays = lays;
      closed = record { in_gap = (tt, tt); aside = tt };
      shows = inr (no_anchor, λ s full. shows s);
      question = whole_is;
    }

    pub row_ask : (pass : ℕ) (deed : Deed) → pass + 1 ≡ v.mark → deed ≡ ask_whole tree → IsCommit k v (record { pass = pass; txn = txn; deed = deed }) plan (pos 0)
    unfolding in_row
    row_ask pass deed pass_is is = record {
      pass = pass_is;
      tree = subst (λ (n : ℕ). n < k.trees) (sym (ap tree_of is)) lt;
      how = in_tree (subst (λ (d : Deed). InTree k v (record { pass = pass; txn = txn; deed = d }) plan) (sym is) (in_row pass));
      change_is = refl;
      licence = λ more. absurd (omega arith);
    }

  -- the same row with other estimates
  pub row_settle : node_of p.words ≡ node_of image.words → IsSettle k v plan
  row_settle same = record {
    tree = tree;
    top = top;
    score = h.score;
    cut = cut;
    new = cut;
    in_range = lt;
    knows = knows;
    lays = lays;
    pairs = ap (λ (n : Node). record { owner = n.owner; range = n.range } ∷ []) (after ∙ (same ∙ sym before));
    mode = inr no_anchor;
    anew = λ r some. inl (one_row r some);
  }

  -- the rows after the commit and after the settle
  planned_words : planned_contents (images v) plan q ≡ p.words
  planned_words = changed_at (images v) p.row p.words q (sym row_is)

  pub after_commit : (w : View) (front : List Event) → w ≡ committed v plan front → HoldsImage w p × ((r : ℕ) → r ≢ q → row_at w r ≡ None)
  after_commit w front e = (
    (record { words = h.row.words; image = planned_contents (images v) plan q; gap = None }, subst (λ (n : ℕ). row_at w n ≡ Some record { words = h.row.words; image = planned_contents (images v) plan q; gap = None }) (sym row_is) (ap (λ (u : View). row_at u q) e ∙ committed_row_has_image v plan front q h.row h.held), planned_words),
    λ r ne. ap (λ (u : View). row_at u r) e ∙ still_none v plan [] r (h.others r ne),
  )

  pub after_settle : (w : View) (front : List Event) → w ≡ settled v plan (new_gaps v plan) front → HoldsImage w p × ((r : ℕ) → r ≢ q → row_at w r ≡ None)
  after_settle w front e = (
    (record { words = h.row.words; image = planned_contents (images v) plan q; gap = slice_index_or (new_gaps v plan) q None }, subst (λ (n : ℕ). row_at w n ≡ Some record { words = h.row.words; image = planned_contents (images v) plan q; gap = slice_index_or (new_gaps v plan) q None }) (sym row_is) (ap (λ (u : View). row_at u q) e ∙ settled_row_has_image v plan front q h.row h.held), planned_words),
    λ r ne. ap (λ (u : View). row_at u r) e ∙ still_none v plan (new_gaps v plan) r (h.others r ne),
  )

-- estimates are no part of what a row holds

front_same : (n : ℕ) (xs : List ℕ) (i x : ℕ) → n ≤ i → take n (set xs i x) ≡ take n xs
front_same zero xs i x le = refl
front_same (suc n) [] i x le = refl
front_same (suc n) (y ∷ ys) zero x le = absurd (omega (arith, le))
front_same (suc n) (y ∷ ys) (suc i) x le = ap (λ (l : List ℕ). y ∷ l) (front_same n ys i x (omega (arith, le)))

part_same : (n m : ℕ) (xs : List ℕ) (i x : ℕ) → n + m ≤ i → take m (drop n (set xs i x)) ≡ take m (drop n xs)
part_same zero m xs i x le = front_same m xs i x (omega (arith, le))
part_same (suc n) m [] i x le = refl
part_same (suc n) m (y ∷ ys) zero x le = absurd (omega (arith, le))
part_same (suc n) m (y ∷ ys) (suc i) x le = part_same n m ys i x (omega (arith, le))

one_same : (ws : List ℕ) (i x : ℕ) → 18 < i → node_of (set ws i x) ≡ node_of ws
unfolding node_of
one_same ws i x le =
    let owner = get_or-set_other ws i 0 x 0 (λ e. omega arith) in
    let low = part_same 1 8 ws i x (omega arith) in
    let high = part_same 9 8 ws i x (omega arith) in
    let left = get_or-set_other ws i 17 x 0 (λ e. omega arith) in
    let right = get_or-set_other ws i 18 x 0 (λ e. omega arith) in
    λ j. record { owner = owner j; range = upwards (key_of (low j)) (key_of (high j)); left = left j; right = right j }

pub estimates_aside : (ws : List ℕ) (a b : ℕ) → node_of (set (set ws 19 a) 20 b) ≡ node_of ws
estimates_aside ws a b = one_same (set ws 19 a) 20 b (omega arith) ∙ one_same ws 19 a (omega arith)

pub left_of_words : (ws us : List ℕ) → node_of ws ≡ node_of us → slice_index us 17 ≡ 0 → (node_of ws).left ≡ 0
left_of_words ws us same none = ap (λ (n : Node). n.left) same ∙ (is_left us ∙ none)

pub right_of_words : (ws us : List ℕ) → node_of ws ≡ node_of us → slice_index us 18 ≡ 0 → (node_of ws).right ≡ 0
right_of_words ws us same none = ap (λ (n : Node). n.right) same ∙ (is_right us ∙ none)

-- the same in a view with the same rows
pub only_on : (k : RowPlan) (v w : View) (tree : ℕ) (image : RowImage) → w.held ≡ v.held → HasOnly k v tree image → HasOnly k w tree image
only_on k v w tree image e h = record {
  row = h.row;
  score = h.score;
  held = ap (λ (l : List (Option Row)). get_or l image.row None) e ∙ h.held;
  words = h.words;
  image_is = h.image_is;
  gap = h.gap;
  further = h.further;
  none_left = h.none_left;
  none_right = h.none_right;
  others = λ r ne. ap (λ (l : List (Option Row)). get_or l r None) e ∙ h.others r ne;
}

-- a tree's top row, taken below its anchor, of which the anchor is given back
pub goes_down : (k : RowPlan) (v w u : View) (tree q : ℕ) (words : List ℕ) (anchor image : RowImage) → tree < k.trees → k.trees < q → v.plan ≡ k → Teaches v → Kept v tree words → ((r : ℕ) → r ≢ tree → row_at v r ≡ None)
    → anchor.words ≡ words_of (row_at v tree) → slice_index anchor.words 0 ≡ 0 → slice_index anchor.words 17 ≡ q + 1
    → (t : Tries q v w Taken) → u ≡ with_row w tree None → image.row ≡ q → image.words ≡ words_of (row_at u q) → slice_index image.words 17 ≡ 0 → slice_index image.words 18 ≡ 0 → HasOnly k u tree image
goes_down k v w u tree q words anchor image lt more plan_is teaches kept none loaded is_tree link t put row_is read none_left none_right =
    let same : anchor.words ≡ words = loaded ∙ kept_words v tree words kept in
    let less : tree < v.plan.trees = subst (λ (y : RowPlan). tree < y.trees) (sym plan_is) lt in
    let mode : mode_of kept.0.image ≡ TreeMode (slice_index words 19) = ap mode_of kept.3 ∙ mode_tree words (ap (λ (ws : List ℕ). slice_index ws 0) (sym same) ∙ is_tree) in
    let leads : (node_of kept.0.image).left ≡ q + 1 = ap (λ (ws : List ℕ). (node_of ws).left) kept.3 ∙ (is_left words ∙ (ap (λ (ws : List ℕ). slice_index ws 17) (sym same) ∙ link)) in
    let gap = gap_at_top v teaches.0 teaches.2 q tree (slice_index words 19) kept.0 less kept.1 mode leads in
    let taken = taken_row_is_held q v w t in
    let kept_anchor : Kept w tree words = kept_on q v w t tree words (λ e. omega arith) kept in
    let gone = put_row_is_gone tree w u kept_anchor.0 kept_anchor.1 put in
    let here : Holds u q (record { words = t.0; image = t.0; gap = gap_for v q }) = gone.1 q (λ e. omega arith) ∙ taken.0 in
    let words_are : image.words ≡ t.0 = read ∙ ap words_of here in
    record {
      row = record { words = t.0; image = t.0; gap = gap_for v q };
      score = slice_index words 19;
      held = subst (λ (n : ℕ). Holds u n (record { words = t.0; image = t.0; gap = gap_for v q })) (sym row_is) here;
      words = sym words_are;
      image_is = sym words_are;
      gap = gap;
      further = subst (λ (n : ℕ). k.trees < n) (sym row_is) more;
      none_left = none_left;
      none_right = none_right;
      others = λ r ne. dite (ℕ_discrete r tree)
          (λ e. ap (row_at u) e ∙ gone.0)
          (λ ne'. gone.1 r ne' ∙ (taken.1 r (λ e. ne (e ∙ sym row_is)) ∙ none r ne'));
    }
