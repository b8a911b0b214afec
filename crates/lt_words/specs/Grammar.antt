-- The command line as clap is told it.
use Rattle.std.specs.Prelude.{true, [], codes}
use Rattle.clap.specs.Walk.{Rule, Text}
use Rattle.clap.specs.Simple.{App, Shape, new_rule, new_shape, with_rule, with_subcommand}

-- a command of this name, without help and version
abbrev pub bare_shape : Text → Shape
bare_shape name = record (new_shape name) { disable_help_flag = true; disable_help_subcommand = true; disable_version_flag = true }

-- the same, with no subcommands
abbrev pub bare : Text → App
bare name = record { top = bare_shape name; subs = [] }

-- a value that must be there
abbrev pub value : Text → Rule
value id = record (new_rule id) { required = true }

-- `serial`
abbrev pub serial_form : App
serial_form = bare (codes "serial")

-- a name, and a number of workers
abbrev pub workers_form : Text → App
workers_form name = with_rule (bare name) (value (codes "N"))

-- a name, and the numbers of which a trace is made
abbrev pub maker_form : Text → App
maker_form name = with_rule (with_rule (with_rule (bare name) (value (codes "SEED"))) (value (codes "TXNS"))) (value (codes "LINES"))

-- `cut`, a number of workers and a key
abbrev pub cut_form : App
cut_form = with_rule (with_rule (bare (codes "cut")) (value (codes "N"))) (value (codes "KEY"))

-- `store`
abbrev pub store_form : App
store_form = bare (codes "store")

-- the program before it has its forms: the words begin with no name of it, and one of the forms must be there
abbrev pub program : App
program = record { top = record (bare_shape (codes "rangelock")) { no_binary_name = true; subcommand_required = true }; subs = [] }

-- the program with its forms
abbrev pub grammar : App
grammar = with_subcommand (with_subcommand (with_subcommand (with_subcommand (with_subcommand (with_subcommand (with_subcommand program
    serial_form.top) (workers_form (codes "crew")).top) (workers_form (codes "live")).top) (maker_form (codes "make")).top)
    (maker_form (codes "sum")).top) cut_form.top) store_form.top
