use Rattle.cell_table.proofs.pass.Pass.split.Given as goal

abbrev pub ghosts-cut : goal.ghosts-cut
ghosts-cut g a = record { callers = a.kept; draws = a.draws }
