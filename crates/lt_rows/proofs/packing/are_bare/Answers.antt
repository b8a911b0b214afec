use Rattle.lt_rows.proofs.ShortKeys.{all_bare}
use Rattle.lt_rows.proofs.packing.are_bare.Goals as goal

pub returns : goal.returns
returns c is = all_bare c.args.words.now is
