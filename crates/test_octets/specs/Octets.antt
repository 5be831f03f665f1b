use Rattle.std.specs.Prelude.{ℕ, Bool, ◌==◌, not, ◌&&◌}

-- whether the octet is no space and no line end
abbrev pub is_no_space : ℕ → Bool
is_no_space b = not (b == 32) && not (b == 10)
