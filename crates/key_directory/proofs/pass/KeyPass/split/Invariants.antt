use Rattle.key_directory.proofs.pass.KeyPass.split.Given as goal

abbrev pub ghosts-split_off : goal.ghosts-split_off
ghosts-split_off g a = record { callers = a.n }
