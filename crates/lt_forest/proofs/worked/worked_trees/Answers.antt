use Rattle.lt_forest.proofs.WorkedTrees.{start, insertion, merge, removal, join, question, rotation, replacement}
use Rattle.lt_forest.proofs.WorkedFirstFree.{first_free}
use Rattle.lt_forest.proofs.worked.worked_trees.Goals as goal

pub returns : goal.returns
returns c = record {
  start = start;
  insertion = insertion;
  merge = merge;
  removal = removal;
  join = join;
  question = question;
  rotation = rotation;
  replacement = replacement;
  first_free = first_free;
}
