-- What a plan file means: its keys are looked at in this order, and the first that is at fault decides.
use Rattle.std.specs.Prelude.{ℕ, List, Option, Some, None, Result, Ok, Err, if◌then◌else◌}
use Rattle.std.specs.Str.{is_utf8}
use Rattle.toml.specs.Data.{Members}
use Rattle.toml.specs.Parse.{parse_document}
use Rattle.gs_planfile.specs.declared.key.Key.TheVariants.{Cluster, Lo, Hi, Mu, Tick, DelayMin, DelayMax}
use Rattle.gs_planfile.specs.declared.key.Key.TheVariants.{Every, Losses, Age, Levels, Port}
use Rattle.gs_planfile.specs.declared.key.PlanFileFault.{PlanFileFault}
use Rattle.gs_planfile.specs.declared.key.PlanFileFault.TheVariants.{Utf8, Toml}
use Rattle.gs_planfile.specs.declared.text.PlanText.{PlanText}
use Rattle.gs_planfile.specs.Extra.{no_extra}
use Rattle.gs_planfile.specs.Lists.{spans_at}
use Rattle.gs_planfile.specs.Shapes.{shape_at}
use Rattle.gs_planfile.specs.Values.{◌>>=◌, kappa_at, number_at, number_or, version_at}

-- what a document says as a plan, or its first fault
unfoldable pub plan_in : Members → Result PlanText PlanFileFault
plan_in ms = do
  version ← version_at ms
  cluster ← number_at Cluster ms
  shape ← shape_at ms
  lo ← number_at Lo ms
  hi ← number_at Hi ms
  mu ← number_at Mu ms
  tick ← number_at Tick ms
  delay_min ← number_at DelayMin ms
  delay_max ← number_at DelayMax ms
  every ← number_at Every ms
  losses ← number_at Losses ms
  age ← number_at Age ms
  kappa ← kappa_at ms
  levels ← number_or 4 Levels ms
  port ← number_or 40000 Port ms
  spans ← spans_at version ms
  extra ← no_extra version shape ms
  Ok (record {
    version = version;
    cluster = cluster;
    shape = shape;
    lo = lo;
    hi = hi;
    mu = mu;
    tick = tick;
    delay_min = delay_min;
    delay_max = delay_max;
    every = every;
    losses = losses;
    age = age;
    kappa = kappa;
    levels = levels;
    port = port;
    spans = spans;
  })

-- a text that is no TOML document says nothing
abbrev pub plan_of_document : Option Members → Result PlanText PlanFileFault
plan_of_document None = Err Toml
plan_of_document (Some ms) = plan_in ms

-- what these bytes say as a plan, or their first fault
abbrev pub plan_of : List ℕ → Result PlanText PlanFileFault
plan_of bytes = if is_utf8 bytes then plan_of_document (parse_document bytes) else Err Utf8
