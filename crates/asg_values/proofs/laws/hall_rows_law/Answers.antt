use Rattle.asg_values.proofs.laws.hall_rows_law.Goals as goal

pub returns : goal.returns
returns c = record {
  made = λ X band ids different counted short. record { different = different; counted = counted; short = short };
  different = λ X band ids hall. hall.different;
  counted = λ X band ids hall. hall.counted;
  short = λ X band ids hall. hall.short;
}
