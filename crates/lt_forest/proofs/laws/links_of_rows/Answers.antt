use Rattle.lt_forest.proofs.PublicLaws.{links_name_further, none_is_named_twice, none_leads_back, none_of_pool_leads_back, pool_is_apart}
use Rattle.lt_forest.proofs.laws.links_of_rows.Goals as goal

pub returns : goal.returns
returns c = record {
  further = links_name_further;
  apart = none_is_named_twice;
  back = none_leads_back;
  pool_back = none_of_pool_leads_back;
  pool_apart = pool_is_apart;
}
