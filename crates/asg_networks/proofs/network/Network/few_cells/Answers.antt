use Rattle.asg_networks.proofs.Common.{◌*◌, ◌≤◌, length, All, sym, ap, subst, arith, mul-le-mul_right, most_rows, most_columns}
use Rattle.asg_networks.proofs.NetworkTables.{length-targets}
use Rattle.asg_networks.proofs.network.Network.few_cells.Goals as goal

pub overflow_mul-len : goal.overflow_mul-len
overflow_mul-len c =
    let ids = c.args.self.now.sources.items in
    let nodes : All (λ id. (1 ≤ id) × (id ≤ c.args.nodes)) ids = subst (λ n. All (λ id. (1 ≤ id) × (id ≤ n)) ids) (sym c.requires.nodes) c.requires.sound.nodes in
    let columns : length c.args.others.now ≤ most_columns = omega (arith, length-targets ids c.args.nodes c.requires.sound.differ nodes, ap length c.requires.others, c.requires.few_columns) in
    let rows : c.len-2.result ≤ most_rows = omega (arith, c.len-2.ensures, c.requires.few_rows) in
    let all : c.len-2.result * length c.args.others.now ≤ most_rows * length c.args.others.now = mul-le-mul_right (length c.args.others.now) rows in
    omega (arith, all, columns)
