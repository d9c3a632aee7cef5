use Rattle.resources_ip_prefix.specs.Orders.{prefix_tied, max_len_tied, prefix_alike, max_len_alike}
use Rattle.resources_ip_prefix.proofs.ip_addr.laws.order_and_hash_agree_with_equality.Goals as goal

pub returns-clause-prefix_order : goal.returns-clause-prefix_order
returns-clause-prefix_order c = prefix_tied

pub returns-clause-max_len_order : goal.returns-clause-max_len_order
returns-clause-max_len_order c = max_len_tied

pub returns-clause-prefix_hash : goal.returns-clause-prefix_hash
returns-clause-prefix_hash c = prefix_alike

pub returns-clause-max_len_hash : goal.returns-clause-max_len_hash
returns-clause-max_len_hash c = max_len_alike
