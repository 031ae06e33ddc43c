pub mod Agreement
pub mod ClusterRun
pub mod Trace
