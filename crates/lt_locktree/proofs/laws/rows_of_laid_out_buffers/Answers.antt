use Rattle.lt_locktree.proofs.EndedRows.{all_pairs_stand, held_pairs_are_read, chain_is_enough, first_rows_take_over, vacant_row_takes_over}
use Rattle.lt_locktree.proofs.laws.rows_of_laid_out_buffers.Goals as goal

pub returns-clause-pairs : goal.returns-clause-pairs
returns-clause-pairs c = all_pairs_stand

pub returns-clause-read : goal.returns-clause-read
returns-clause-read c = held_pairs_are_read

pub returns-clause-enough : goal.returns-clause-enough
returns-clause-enough c = chain_is_enough

pub returns-clause-first : goal.returns-clause-first
returns-clause-first c = first_rows_take_over

pub returns-clause-vacant : goal.returns-clause-vacant
returns-clause-vacant c = vacant_row_takes_over
