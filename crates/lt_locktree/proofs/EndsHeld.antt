-- What a pass holds of the pool beside a buffer's chain.
use Rattle.std.proofs.Common.{◌≡◌, ℕ, ◌+◌, ◌<◌, ◌≤◌, List, ◌∷◌, length, sym, subst, arith}
use Rattle.std.specs.Prelude.{slice_index}
use Rattle.lt_rows.specs.declared.row_plan.RowPlan.{RowPlan}
use Rattle.lt_forest.specs.Counts.{times}
use Rattle.lt_forest.proofs.SameRows.{one_here}
use Rattle.lt_rows.specs.declared.image.RowImage.{RowImage}
use Rattle.lt_rows.specs.declared.view.View.{View}
use Rattle.lt_rows.specs.declared.take.Take.TheVariants.{Taken}
use Rattle.lt_rows.specs.Views.{row_at, rows_of, words_of}
use Rattle.lt_rows.specs.Teaching.{Teaches}
use Rattle.lt_tree.specs.States.{Seizes, OnlyRows, KeepsRows}
use Rattle.lt_tree.specs.Puttings.{Backs}
use Rattle.lt_tree.proofs.ViewLaws.{rows_plan, rows_seized, keeps_on}
use Rattle.lt_chain.specs.Chains.{ShowsChain, HoldsChain}
use Rattle.lt_chain.proofs.DropLaws.{ended_here, pool_out, shows_on}
use Rattle.lt_locktree.specs.declared.buffer_rows.Spare.TheVariants.{Anchor, First}
use Rattle.lt_locktree.specs.EndedBuffers.{HoldsEnds}
use Rattle.lt_locktree.specs.PlannedParts.{IsLoaded}
use Rattle.lt_locktree.proofs.HeldRows.{first_held, backs_taken, keeps_taken, loaded_on}

pub pool_inside : (k : RowPlan) → k.trees < rows_of k
unfolding rows_of
pool_inside k = omega arith

pub pool_apart : (v : View) (tree : ℕ) (rows : List ℕ) → tree < v.plan.trees → HoldsChain v tree rows → Teaches v
    → times v.plan.trees (tree ∷ rows) ≡ 0
pool_apart v tree rows lt h teaches = pool_out v.plan tree rows lt (ended_here v tree rows lt h teaches)

-- the pool's anchor is held besides, as it was loaded
pub record HoldsPool (v w : View) (tree : ℕ) (rows : List ℕ) (pool : RowImage) : Type 0 where
  pub backs : Backs w (pool.row ∷ tree ∷ rows)
  pub kept : KeepsRows v w
  pub shows : ShowsChain w tree rows
  pub loaded : IsLoaded w w.plan.trees pool

pub holds_pool : (v w u : View) (tree : ℕ) (rows : List ℕ) (pool : RowImage) → tree < v.plan.trees → HoldsChain v tree rows → Teaches v
    → Seizes v.plan.trees v w Taken → u ≡ w → pool.row ≡ v.plan.trees → pool.words ≡ words_of (row_at w v.plan.trees)
    → length pool.words ≡ 21
    → HoldsPool v u tree rows pool
holds_pool v w u tree rows pool lt h teaches s same row words long =
    let apart = pool_apart v tree rows lt h teaches in
    let kept = keeps_taken v.plan.trees v w (tree ∷ rows) s apart h.backs in
    let plan : w.plan ≡ v.plan = rows_plan v w (rows_seized v.plan.trees v w s) in
    subst (λ (x : View). HoldsPool v x tree rows pool) (sym same) record {
      backs = subst (λ (n : ℕ). Backs w (n ∷ tree ∷ rows)) (sym row) (backs_taken v.plan.trees v w (tree ∷ rows) s apart h.backs);
      kept = kept;
      shows = shows_on v w tree rows h.backs kept h.shows;
      loaded = subst (λ (p : RowPlan). IsLoaded w p.trees pool) (sym plan) (record { row = row; words = words; long = long });
    }

module _ (v w : View) (tree : ℕ) (rows : List ℕ) (pairs : ℕ) (pool anchor : RowImage) (h : HoldsChain v tree rows)
    (p : HoldsPool v w tree rows pool) (loaded : IsLoaded v tree anchor) where
  pub ends_with_pool : Teaches w → pairs ≤ length rows → HoldsEnds w tree rows pairs record { anchor = anchor; spare = Anchor pool }
  ends_with_pool teaches le = record {
    backs = p.backs;
    shows = p.shows;
    teaches = teaches;
    anchor = loaded_on v w tree anchor p.kept (first_held v tree rows h.backs) loaded;
    room = le;
    spare = p.loaded;
  }

  pub ends_with_first : (u : View) (row : RowImage) → OnlyRows w u → KeepsRows w u → Teaches u → Backs u (row.row ∷ pool.row ∷ tree ∷ rows)
      → IsLoaded u row.row row → slice_index pool.words 17 ≡ row.row + 1 → pairs ≡ length rows + 1
      → HoldsEnds u tree rows pairs record { anchor = anchor; spare = First pool row }
  ends_with_first u row only kept teaches backs row_loaded first many =
      let plan : u.plan ≡ w.plan = rows_plan w u only in
      let all_kept = keeps_on v w u p.kept kept in
      record {
        backs = backs;
        shows = shows_on v u tree rows h.backs all_kept h.shows;
        teaches = teaches;
        anchor = loaded_on v u tree anchor all_kept (first_held v tree rows h.backs) loaded;
        room = many;
        spare = (
          subst (λ (k : RowPlan). IsLoaded u k.trees pool) (sym plan)
              (loaded_on w u w.plan.trees pool kept
              (p.backs.keeps.held w.plan.trees
              (subst (λ (n : ℕ). 0 < times n (pool.row ∷ tree ∷ rows)) p.loaded.row (let o = one_here pool.row in omega arith)))
              p.loaded),
          row_loaded,
          first,
        );
      }
