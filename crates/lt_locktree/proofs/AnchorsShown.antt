-- What a prepared anchor says of what serves an ask.
use Rattle.std.proofs.Common.{◌≡◌, ◌≢◌, inl, inr, ℕ, zero, suc, ◌<◌, ◌≤◌, Bool, true, false, ◌&&◌, List, [], ◌∷◌, map, length, refl, sym, ap, ◌∙◌, subst, arith, length-append}
use Rattle.std.proofs.lemmas.Bool.{eqb-true, ltb-true}
use Rattle.std.proofs.lemmas.List.{length-map}
use Rattle.std.specs.Prelude.{None, nat_eq, nat_lt}
use Rattle.lt_ranges.specs.Interval.{Interval}
use Rattle.lt_rows.specs.declared.row_plan.RowPlan.{RowPlan}
use Rattle.lt_seq.specs.declared.event.Mode.{Mode}
use Rattle.lt_seq.specs.declared.event.Mode.TheVariants.{Tree as TreeMode, Buffer}
use Rattle.lt_seq.specs.Table.{is_buffered}
use Rattle.lt_forest.specs.declared.part.PartRow.{PartRow}
use Rattle.lt_forest.specs.Counts.{one_if}
use Rattle.lt_forest.specs.Cuts.{Cut, end, held, Shows as ShowsCut, AllAside, bare}
use Rattle.lt_forest.specs.Forest.{IsTree}
use Rattle.lt_forest.specs.Parts.{rows_of, hangs_of, hanging, row_pair, part_row}
use Rattle.lt_forest.specs.Trees.{Nodes, in_order}
use Rattle.lt_forest.proofs.SameRows.{one_equal}
use Rattle.lt_rows.specs.declared.image.RowImage.{RowImage}
use Rattle.lt_rows.specs.declared.view.View.{View}
use Rattle.lt_rows.specs.Nodes.{node_of, mode_of}
use Rattle.lt_rows.specs.Views.{IsHeld, images}
use Rattle.lt_rows.specs.Lawful.{shown}
use Rattle.lt_rows.proofs.Planned.{held_row}
use Rattle.lt_tree.specs.declared.prepare.Anchor.{Anchor}
use Rattle.lt_tree.specs.States.{IsPrepared}
use Rattle.lt_tree.specs.Anchors.{ShowsMode}
use Rattle.lt_tree.specs.Descents.{ShowsAs}
use Rattle.lt_tree.specs.Gathers.{Place, link_at, IsLockedWith, IsClosed}
use Rattle.lt_tree.proofs.PuttingLaws.{same_or_other}
use Rattle.lt_tree.proofs.ReleaseLaws.{anchor_top}
use Rattle.lt_tree.proofs.ViewLaws.{only_gathers}
use Rattle.lt_chain.specs.Buffers.{HoldsAnchor, MayBegin, MayAppend}
use Rattle.lt_chain.specs.Chains.{ShowsBuffer}
use Rattle.lt_locktree.specs.declared.serving.Serving.TheVariants.{Beginning, Own, Ending, Tree}
use Rattle.lt_locktree.specs.Ends.{TakesNoAsk}
use Rattle.lt_locktree.specs.LawsOfGrants.{NoBufferBegins}
use Rattle.lt_locktree.specs.Serves.{Shows, BeginsNone}

shows_tree : (mode : Mode) (a : Anchor) → ShowsMode mode a → a.buffer_txn ≡ 0 → mode ≡ TreeMode a.score
shows_tree mode a (inl s) is = s.1
shows_tree mode a (inr s) is = absurd (s.0 is)

shows_buffer : (mode : Mode) (a : Anchor) → ShowsMode mode a → a.buffer_txn ≢ 0 → mode ≡ Buffer a.buffer_txn a.buffered
shows_buffer mode a (inl s) some = absurd (some s.0)
shows_buffer mode a (inr s) some = s.1

pub tree_shown : (mode : Mode) (a : Anchor) → ShowsMode mode a → a.buffer_txn ≡ 0 → IsTree mode
tree_shown mode a shows is = subst IsTree (sym (shows_tree mode a shows is)) tt

at_most_one : (b : Bool) → one_if b ≤ 1
at_most_one true = omega arith
at_most_one false = omega arith

pub anchor_held : (v : View) (tree : ℕ) (image : RowImage) → IsPrepared v tree image → HoldsAnchor v tree
anchor_held v tree image p = record {
  keeps = record {
    held = λ q some. elim (same_or_other tree q) [
      | inl is ↦ subst (IsHeld v) (sym is) (held_row v tree p.0.0)
      | inr other ↦ absurd (let z = other.1 in omega arith)
    ];
    once = λ q. (let m = at_most_one (nat_eq tree q) in omega arith);
    gathers = only_gathers v tree image.words p.0 p.2;
  };
  held_all = λ q h. (let o = one_equal q tree (p.2 q h) in omega arith);
}

module _ (v : View) (tree : ℕ) (image : RowImage) (a : Anchor) (p : IsPrepared v tree image) (mode : ShowsMode (mode_of image.words) a) where
  pub may_begin : (k : RowPlan) (buffer txn : ℕ) → buffer ≡ k.buffer → a.top ≡ (node_of image.words).left → Shows buffer txn a Beginning → MayBegin k v tree
  may_begin k buffer txn same top s = record {
    room = subst (λ (n : ℕ). 0 < n) same s.3;
    mode = ap mode_of p.0.2 ∙ (shows_tree (mode_of image.words) a mode s.0 ∙ ap TreeMode s.2);
    empty = ap (λ (l : List ℕ). (node_of l).left) p.0.2 ∙ (sym top ∙ s.1);
  }

  pub may_append : (k : RowPlan) (buffer txn : ℕ) → buffer ≡ k.buffer → Shows buffer txn a Own → MayAppend k v tree txn a.buffered
  may_append k buffer txn same s = record {
    room = subst (λ (n : ℕ). a.buffered < n) same s.2;
    mode = ap mode_of p.0.2 ∙ (shows_buffer (mode_of image.words) a mode s.0 ∙ ap (λ (t : ℕ). Buffer t a.buffered) s.1);
  }

  pub takes_no_ask : (buffer txn : ℕ) → buffer ≡ v.plan.buffer → Shows buffer txn a Ending → TakesNoAsk v tree txn
  takes_no_ask buffer txn same s = (
    a.buffer_txn,
    a.buffered,
    ap mode_of p.0.2 ∙ shows_buffer (mode_of image.words) a mode s.0,
    subst (λ (n : ℕ). is_buffered n txn [] (Buffer a.buffer_txn a.buffered) ≡ false) same s.1,
  )

  pub buffer_shown : a.buffer_txn ≢ 0 → ShowsBuffer v tree
  buffer_shown some = (a.buffer_txn, a.buffered, ap mode_of p.0.2 ∙ shows_buffer (mode_of image.words) a mode some)

pub begins_none : (words : List ℕ) (a : Anchor) (buffer txn : ℕ) → ShowsMode (mode_of words) a → a.top ≡ (node_of words).left → Shows buffer txn a Tree → BeginsNone buffer words
begins_none words a buffer txn mode top s link full room =
    let is : TreeMode a.score ≡ TreeMode 100 = sym (shows_tree (mode_of words) a mode s.0) ∙ full in
    let score : a.score ≡ 100 = cc in
    s.1 (top ∙ link) score room

-- where a closed part has no row, nothing hangs
bare_link : (asked : Interval) (c : Nodes) (sub : Cut) (link : ℕ) → ShowsCut c link sub → length (rows_of c sub) ≡ 0 → AllAside asked (hanging [] (hangs_of sub) None None) → link ≡ 0
bare_link asked c (end zero) link s none aside = s
bare_link asked c (end (suc n)) link s none aside = elim aside.0 [ inl x ↦ absurd x | inr x ↦ absurd x ]
bare_link asked c (held a q b) link s none aside =
    let m = length-map (in_order (bare (held a q b))) (part_row c) in
    let n = length-append (in_order (bare a)) (q ∷ in_order (bare b)) in
    absurd (omega (arith, m, n, none))

three : (b c d : Bool) → (b ≡ true → c ≡ true → d ≡ true → ⊥) → (b && c && d) ≡ false
three true true true never = absurd (never refl refl refl)
three true true false never = refl
three true false true never = refl
three true false false never = refl
three false true true never = refl
three false true false never = refl
three false false true never = refl
three false false false never = refl

module _ (v : View) (tree : ℕ) (asked : Interval) (here : ℕ) (rows : List PartRow) (hangs more : List ℕ)
    (l : IsLockedWith v tree asked here rows hangs more) (lt : tree < v.plan.trees) (closed : IsClosed asked rows hangs) where
  link_of : here ≡ tree → length rows ≡ 0 → (node_of (images v tree)).left ≡ 0
  link_of at none =
      let top = (anchor_top v tree asked here rows hangs l lt at).0 in
      let shows : ShowsCut (shown v []) (shown v [] here).left l.sub = subst (λ (p : Place). ShowsCut (shown v []) (link_at p (shown v [] here)) l.sub) top l.shows in
      let bare_rows : length (rows_of (shown v []) l.sub) ≡ 0 = ap length l.rows_are ∙ none in
      let aside : AllAside asked (hanging [] (hangs_of l.sub) None None) = by_rows rows hangs none (sym l.hangs_are) closed in
      sym (ap (λ (r : ℕ). (node_of (images v r)).left) at) ∙ bare_link asked (shown v []) l.sub (shown v [] here).left shows bare_rows aside
    where
      by_rows : (xs : List PartRow) (ls : List ℕ) → length xs ≡ 0 → ls ≡ hangs_of l.sub → IsClosed asked xs ls → AllAside asked (hanging [] (hangs_of l.sub) None None)
      by_rows [] ls none is aside = subst (λ (m : List ℕ). AllAside asked (hanging [] m None None)) is aside
      by_rows (x ∷ xs) ls none is aside = absurd (omega (arith, none))

  pub none_begins : (words : List ℕ) (txn : ℕ) → (here ≡ tree → ShowsAs words (images v tree)) → BeginsNone v.plan.buffer words → NoBufferBegins v tree here txn rows
  none_begins words txn same none at score mode =
      three (nat_eq score 100) (nat_eq (length (map row_pair rows)) 0) (nat_lt 0 v.plan.buffer)
      (λ full no_pairs room.
      let image = same at in
      let n = length-map rows row_pair in
      let z = eqb-true (length (map row_pair rows)) 0 no_pairs in
      let bare_rows : length rows ≡ 0 = omega (arith, n, z) in
      none (image.1 (link_of at bare_rows)) (sym image.0 ∙ (mode ∙ ap TreeMode (eqb-true score 100 full))) (ltb-true 0 v.plan.buffer room))
