use Rattle.asg.proofs.+page_byte.Given as goal

abbrev pub decreases-page_byte : goal.decreases-page_byte
decreases-page_byte l = l.pages
