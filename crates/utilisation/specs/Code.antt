pub mod Utilisation
