use Rattle.report.proofs.page.Page.+digits.Given as goal

abbrev pub decreases-digits : goal.decreases-digits
decreases-digits l = l.k
