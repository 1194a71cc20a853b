use Rattle.asg_rank.proofs.opening.search_memory.Goals as goal

pub returns : goal.returns
returns g c =
    let tree = c.in_ok-tree.ensures in
    let answers = c.in_ok-answers.ensures in
    record {
      small = tree.small;
      no_node = tree.none;
      entries_fit = tree.fit;
      halls_are = tree.halls;
      slots_are = answers.slots;
      choices_fit = answers.count;
      choices_over = answers.over;
      desk = c.in_ok-desk.ensures;
    }
