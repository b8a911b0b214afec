-- A free: the transaction's rows that overlap are left out of the part, and go to the pool.
use Rattle.std.proofs.Common.{◌≡◌, ◌⊎◌, inl, inr, ℕ, zero, ◌+◌, Bool, true, false, not, List, [], ◌∷◌, map, length, suc, refl, sym, ap, ◌∙◌, subst, arith, append-nil}
use Rattle.std.specs.Prelude.{pos, ◌+ℤ◌, if◌then◌else◌}
use Rattle.std.specs.List.{filter}
use Rattle.lt_ranges.specs.Interval.{Interval, IsInterval}
use Rattle.lt_seq.specs.declared.event.Pair.{Pair}
use Rattle.lt_seq.specs.declared.event.Mode.{Mode}
use Rattle.lt_seq.specs.declared.event.Mode.TheVariants.{Tree as TreeMode}
use Rattle.lt_seq.specs.declared.event.Deed.TheVariants.{Free}
use Rattle.lt_seq.specs.Pairs.{is_own, freed, count_freed}
use Rattle.lt_rows.specs.Plan.{setting_of}
use Rattle.lt_seq.specs.Table.{Setting, raised}
use Rattle.lt_forest.specs.declared.part.PartRow.{PartRow}
use Rattle.lt_forest.specs.Counts.{times}
use Rattle.lt_forest.specs.Trees.{Nodes, in_order, pairs_in}
use Rattle.lt_forest.specs.Cuts.{Cut, bare}
use Rattle.lt_forest.specs.Items.{Item, row, hang, hang_if, items, sift, LeavesOut}
use Rattle.lt_forest.specs.Parts.{rows_of, hangs_of, row_pair, numbers}
use Rattle.lt_forest.specs.Plans.{Top, ShowsDeed, SameRows}
use Rattle.lt_forest.specs.Sides.{around as beside}
use Rattle.lt_forest.specs.Views.{PlansOnly, no_pool}
use Rattle.lt_forest.proofs.PublicLaws.{left_out_loosens, left_out_is_freed, left_out_keeps_rows, side_shows_free}
use Rattle.lt_forest.proofs.WidenLaws.{length-hangs_of}
use Rattle.lt_rows.specs.declared.view.View.{View}
use Rattle.lt_rows.specs.declared.image.RowImage.{RowImage}
use Rattle.lt_rows.specs.Views.{planned_rows}
use Rattle.lt_rows.specs.Lawful.{shown, shown_after, mode_before, mode_after, KnowsTop}
use Rattle.lt_tree.specs.Gathers.{Place, below_top, on_left, on_right, TopIs, IsLockedWith}
use Rattle.lt_locktree.specs.LawsOfFrees.{goes, freed_rows, KeepsScore, RaisesAnchor, FreeCommits, NoneFreedCommits}
use Rattle.lt_locktree.specs.Relaid.{StaysBeside}
use Rattle.lt_locktree.specs.RelaidRows.{RowStays}
use Rattle.lt_locktree.proofs.HeldParts.{sub_pairs}
use Rattle.lt_locktree.proofs.GrantedRuns.{sub_lawful, sub_held, numbers_are, length-numbers, counted}
use Rattle.lt_locktree.proofs.Relays.{IsBesideRow, relay_commits}

-- the rows that go, by either test

not_not : (b : Bool) → not (not b) ≡ b
not_not true = refl
not_not false = refl

filter_same : (f g : PartRow → Bool) (xs : List PartRow) → ((x : PartRow) → f x ≡ g x) → filter f xs ≡ filter g xs
filter_same f g [] same = refl
filter_same f g (x ∷ xs) same = λ j. if same x j then x ∷ filter_same f g xs same j else filter_same f g xs same j

pub gone_twice : (txn : ℕ) (range : Interval) (rows : List PartRow) → filter (λ r. not (not (goes txn range r))) rows ≡ freed_rows txn range rows
gone_twice txn range rows = filter_same (λ r. not (not (goes txn range r))) (goes txn range) rows (λ r. not_not (goes txn range r))

-- and how many they are
pub count_is : (txn : ℕ) (range : Interval) (rows : List PartRow) → count_freed txn range (map row_pair rows) ≡ length (numbers (freed_rows txn range rows))
count_is txn range [] = refl
count_is txn range (r ∷ rows) = by (goes txn range r) (count_is txn range rows)
  where
    by : (b : Bool) → count_freed txn range (map row_pair rows) ≡ length (numbers (freed_rows txn range rows))
        → length (if b then row_pair r ∷ filter (is_own txn range) (map row_pair rows) else filter (is_own txn range) (map row_pair rows))
        ≡ length (numbers (if b then r ∷ freed_rows txn range rows else freed_rows txn range rows))
    by true e = ap (λ (n : ℕ). suc n) e
    by false e = e

-- a score that a free leaves as it is

full_stays : (first : Bool) → raised first (TreeMode 100) ≡ TreeMode 100
full_stays true = refl
full_stays false = refl

stays_by : (first : Bool) (score s : ℕ) → (first ≡ false) ⊎ (score ≡ 100) → (score ≡ 100 → s ≡ 100) → raised first (TreeMode s) ≡ TreeMode s
stays_by first score s (inl e) full = ap (λ (b : Bool). raised b (TreeMode s)) e
stays_by first score s (inr e) full =
    ap (λ (n : ℕ). raised first (TreeMode n)) (full e) ∙ (full_stays first ∙ ap (λ (n : ℕ). TreeMode n) (sym (full e)))

score_stays : (p : Place) (first : Bool) (score s : ℕ) → IsBesideRow p → KeepsScore p first score → (score ≡ 100 → s ≡ 100)
    → raised first (TreeMode s) ≡ TreeMode s
score_stays below_top first score s b keeps full = absurd b
score_stays on_left first score s b keeps full = stays_by first score s keeps full
score_stays on_right first score s b keeps full = stays_by first score s keeps full

-- below the anchor the part shows the free
below_shows : (setting : Setting) (txn tree : ℕ) (asked : Interval) (first : Bool) (c d : Nodes) (sub new : Cut) (was now : Mode) (s : ℕ)
    → was ≡ TreeMode s → now ≡ raised first was → IsInterval asked → pairs_in d (bare new) ≡ freed txn asked (pairs_in c (bare sub))
    → ShowsDeed setting txn (Free tree asked first (count_freed txn asked (pairs_in c (bare sub)))) c d sub new was now
below_shows setting txn tree asked first c d sub new was now s e f interval pairs =
    subst (λ (m : Mode × Mode). ShowsDeed setting txn (Free tree asked first (count_freed txn asked (pairs_in c (bare sub)))) c d sub new m.0 m.1)
    (λ j. (sym e j, sym (f ∙ ap (raised first) e) j))
    (record { was_tree = tt; is_tree = tt; pairs = pairs; mode = refl; replies = refl; question = interval })

pub free_commits : FreeCommits
free_commits v tree asked here rows rows' hangs hangs' more given first plan e change l closed lt interval keeps left_out laid raises these pool only pass is counts =
    let c : Nodes = shown v plan in
    let d : Nodes = shown_after v plan in
    let keep : PartRow → Bool = λ r. not (goes e.txn asked r) in
    let mine : List Pair = pairs_in c (bare l.sub) in
    let same_pairs : map row_pair rows ≡ mine = sub_pairs v tree asked here rows hangs more l lt in
    let numbers_is : in_order (bare l.sub) ≡ numbers rows = numbers_are v tree asked here rows hangs more l closed lt in
    let lawful = sub_lawful v tree asked here rows hangs more l closed lt in
    let left : LeavesOut keep (rows_of c l.sub) (hangs_of l.sub) (rows_of d laid.new) (hangs_of laid.new) =
    subst (λ (x : (List PartRow × List ℕ) × (List PartRow × List ℕ)). LeavesOut keep x.0.0 x.0.1 x.1.0 x.1.1)
    (λ j. ((sym l.rows_are j, sym l.hangs_are j), (sym laid.rows_are j, sym laid.hangs_are j))) left_out in
    let pairs : pairs_in d (bare laid.new) ≡ freed e.txn asked mine = left_out_is_freed e.txn asked c d l.sub laid.new left in
    let goes_is : numbers (filter (λ r. not (keep r)) (rows_of c l.sub)) ≡ numbers (freed_rows e.txn asked rows) =
    ap numbers (ap (filter (λ r. not (keep r))) l.rows_are ∙ gone_twice e.txn asked rows) in
    let kept = left_out_keeps_rows keep c d l.sub laid.new left in
    let long : length (numbers (freed_rows e.txn asked rows)) ≡ length (freed_rows e.txn asked rows) =
    length-numbers (freed_rows e.txn asked rows) in
    let same : SameRows l.sub laid.new [] given =
    record {
      each = λ q. let k = kept.each q in let g = ap (times q) goes_is in let t = these.each q in omega arith;
      all = let k = kept.all in let g = ap (λ (ns : List ℕ). length ns) goes_is in let t = these.all in omega arith;
    } in
    relay_commits v tree asked here rows hangs more l closed lt plan laid.new [] given e.txn
    (Free tree asked first (count_freed e.txn asked mine)) refl refl interval laid.shows laid.beside
    (λ q some. sub_held v tree asked here rows hangs more l closed lt q (let s = same.each q in omega arith))
    (left_out_loosens keep c d l.sub laid.new lawful left) same pool
    (subst (λ (ns : List ℕ). PlansOnly (here ∷ v.plan.trees ∷ ns) (planned_rows plan)) (sym (append-nil (in_order (bare l.sub)) ∙ numbers_is)) only)
    (λ at was. below_shows (setting_of v.plan) e.txn tree asked first c d l.sub laid.new (mode_before v plan tree) (mode_after v plan tree) l.score was
    (subst (RaisesAnchor v plan tree first) at raises) interval pairs)
    (λ s h b full whole on_side beside_same.
    subst (λ (m : Mode). ShowsDeed (setting_of v.plan) e.txn (Free tree asked first (count_freed e.txn asked mine)) c d (beside c h l.sub) (beside d h laid.new) (TreeMode s) m)
    (score_stays l.place first l.score s b keeps full)
    (side_shows_free (setting_of v.plan) e.txn tree s asked first c d h l.sub laid.new whole interval on_side pairs beside_same))
    e change pass refl (is ∙ ap (λ (ps : List Pair). Free tree asked first (count_freed e.txn asked ps)) same_pairs)
    (λ k. counted change (count_freed e.txn asked (map row_pair rows)) (length (in_order (bare l.sub))) (length (in_order (bare laid.new))) k counts
    (let s = same.all in let n = count_is e.txn asked rows in let t = these.all in omega arith))
    (λ some. absurd (omega arith))

-- where no row goes, the part is as it was

abbrev AllStay : (PartRow → Bool) → List PartRow → Type 0
AllStay keep [] = Unit {0}
AllStay keep (r ∷ rows) = (keep r ≡ true) × AllStay keep rows

all_stay : (txn : ℕ) (range : Interval) (rows : List PartRow) → freed_rows txn range rows ≡ [] → AllStay (λ r. not (goes txn range r)) rows
all_stay txn range [] e = tt
all_stay txn range (r ∷ rows) e = by (goes txn range r) refl (λ f. all_stay txn range rows f) e
  where
    by : (b : Bool) → goes txn range r ≡ b → (freed_rows txn range rows ≡ [] → AllStay (λ q. not (goes txn range q)) rows)
        → (if b then r ∷ freed_rows txn range rows else freed_rows txn range rows) ≡ []
        → (not (goes txn range r) ≡ true) × AllStay (λ q. not (goes txn range q)) rows
    by true at rest f = absurd (let n = ap (λ (xs : List PartRow). length xs) f in omega arith)
    by false at rest f = (ap (λ (b : Bool). not b) at, rest f)

filter_stays : (keep : PartRow → Bool) (rows : List PartRow) → AllStay keep rows → filter keep rows ≡ rows
filter_stays keep [] stay = refl
filter_stays keep (r ∷ rows) stay =
    ap (λ (b : Bool). if b then r ∷ filter keep rows else filter keep rows) stay.0 ∙ ap (λ (xs : List PartRow). r ∷ xs) (filter_stays keep rows stay.1)

sift_stays : (keep : PartRow → Bool) (rows : List PartRow) (hangs : List ℕ) → AllStay keep rows → sift keep (items rows hangs) ≡ items rows hangs
sift_stays keep rows [] stay = refl
sift_stays keep [] (zero ∷ hs) stay = refl
sift_stays keep [] (suc h ∷ hs) stay = refl
sift_stays keep (r ∷ rows) (h ∷ hs) stay = by (sift_stays keep rows hs stay.1) h
  where
    rest : sift keep (items rows hs) ≡ items rows hs → (if keep r then row r ∷ sift keep (items rows hs) else sift keep (items rows hs)) ≡ row r ∷ items rows hs
    rest e =
        ap (λ (b : Bool). if b then row r ∷ sift keep (items rows hs) else sift keep (items rows hs)) stay.0
        ∙ ap (λ (is : List Item). row r ∷ is) e

    by : sift keep (items rows hs) ≡ items rows hs → (n : ℕ) → sift keep (hang_if n (row r ∷ items rows hs)) ≡ hang_if n (row r ∷ items rows hs)
    by e zero = rest e
    by e (suc n) = ap (λ (is : List Item). hang (suc n) ∷ is) (rest e)

same_place : (v : View) (here : ℕ) (p : Place) → RowStays v [] here p
same_place v here below_top = tt
same_place v here on_left = (refl, refl)
same_place v here on_right = (refl, refl)

pub keeps_score : (p : Place) (first : Bool) (score : ℕ) → (first ≡ false) ⊎ (score ≡ 100) → KeepsScore p first score
keeps_score below_top first score h = tt
keeps_score on_left first score h = h
keeps_score on_right first score h = h

same_mode : (v : View) (here : ℕ) (p : Place) → StaysBeside v [] here p
same_mode v here below_top = refl
same_mode v here on_left = (refl, refl)
same_mode v here on_right = (refl, refl)

-- where the anchor shows the same mode and no score rises, it has the score that a free leaves
pub anchor_keeps : (v : View) (tree : ℕ) (asked : Interval) (here : ℕ) (rows : List PartRow) (hangs more : List ℕ)
    (l : IsLockedWith v tree asked here rows hangs more) (first : Bool) (plan : List RowImage) → (first ≡ false) ⊎ (l.score ≡ 100)
    → StaysBeside v plan here l.place → RaisesAnchor v plan tree first l.place
anchor_keeps v tree asked here rows hangs more l first plan keeps stays = by l.place refl stays
  where
    by : (p : Place) → l.place ≡ p → StaysBeside v plan here p → RaisesAnchor v plan tree first p
    by below_top at b =
        let top = subst (λ (p : Place). TopIs p tree here l.top) at l.top_is in
        let was : mode_before v plan tree ≡ TreeMode l.score = subst (λ (t : Top). KnowsTop v tree t l.score) top.1 l.knows in
        subst (λ (n : ℕ). mode_after v plan n ≡ mode_before v plan n) top.0 b
        ∙ (was ∙ (sym (stays_by first l.score l.score keeps (λ s. s)) ∙ ap (raised first) (sym was)))
    by on_left at b = tt
    by on_right at b = tt

pub none_freed_commits : NoneFreedCommits
none_freed_commits v tree asked here rows hangs more first e l closed lt interval keeps none pass is =
    let stay = all_stay e.txn asked rows none in
    let long : length hangs ≡ length rows + 1 =
    ap (λ (hs : List ℕ). length hs) (sym l.hangs_are)
    ∙ (length-hangs_of l.sub
    ∙ ap (λ (n : ℕ). n + 1) (ap (λ (ns : List ℕ). length ns) (numbers_are v tree asked here rows hangs more l closed lt) ∙ length-numbers rows)) in
    let count : count_freed e.txn asked (map row_pair rows) ≡ 0 =
    count_is e.txn asked rows ∙ ap (λ (rs : List PartRow). length (numbers rs)) none in
    free_commits v tree asked here rows rows hangs hangs more [] first [] e (pos 0) l closed lt interval
    (keeps_score l.place first l.score keeps)
    (record {
      long = long;
      new_long = long;
      new_rows = sym (filter_stays (λ r. not (goes e.txn asked r)) rows stay);
      new_items = sym (sift_stays (λ r. not (goes e.txn asked r)) rows hangs stay);
    })
    (record { new = l.sub; shows = l.shows; rows_are = l.rows_are; hangs_are = l.hangs_are; beside = same_place v here l.place })
    (anchor_keeps v tree asked here rows hangs more l first [] keeps (same_mode v here l.place))
    (record { each = λ q. ap (λ (rs : List PartRow). times q (numbers rs)) (sym none); all = ap (λ (rs : List PartRow). length rs) (sym none) })
    (no_pool refl refl refl) (λ q z. refl) pass
    (is ∙ ap (λ (n : ℕ). Free tree asked first n) (sym count)) (ap (λ (n : ℕ). pos 0 +ℤ pos n) count)
