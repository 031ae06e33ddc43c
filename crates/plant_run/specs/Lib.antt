pub mod PlantRun
